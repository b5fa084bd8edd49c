-- A well-formed sheet, by the value that all behind the reader take.
use Rattle.std.specs.Prelude.{◌≡◌}
use Rattle.rules.specs.Sheet as rules
use Rattle.laws.specs.Formed.{formed, gap_within}
use Rattle.sheet.specs.declared.formed.WellFormed.{WellFormed}
use Rattle.sheet.specs.View.{meaning, IsFormed}

-- what it says: every contract behind the reader speaks of this
abbrev pub said_by : WellFormed → rules.Sheet
said_by s = meaning s.view s.bytes.now

-- all that follows from its facts
pub formed_by : (s : WellFormed) → IsFormed s.view s.bytes.now
formed_by s =
    let says = said_by s in
    let g = formed says s.well in
    record { sheet = s.counted; well = s.well; few = s.few; gap = gap_within says s.well; formed = g }
