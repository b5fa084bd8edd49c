-- The two cases of an event's row.
use Rattle.std.specs.Prelude.{Some, None}
use Prim.Native.Nat.{ℕ, ◌+◌, ◌*◌, ◌≤◌, ◌<◌}
use mathlib.Core.Path.{◌≡◌, refl, ap, ◌∙◌}
use mathlib.Core.Bool.{true, false}
use mathlib.Core.List.{List}
use lib.Dec.{ltb}
use borrow.Author.Tests.{lt-ltb, le-ltb}
use Rattle.rules.specs.Count.{two}
use Rattle.rules.specs.Sheet.{sheet_of, event_at}
use Rattle.sheet.specs.View.{meaning, SheetIs, RowIs, event_from}
use Rattle.sheet.specs.Laws.{sheet_means}
use Rattle.sheet.specs.declared.Sheet.{Sheet}
use Rattle.sheet.specs.declared.Row as sheet
use Rattle.sheet.specs.declared.Event.{Event}
use Rattle.lent.specs.Row.{row_of}

module _ {b : List ℕ} {v : Sheet} (w : SheetIs b v) (e : ℕ) where
  pub row_of_lem
      : e < v.events
      → {r : sheet.Row} {c : ℕ} {x : Event}
      → RowIs (event_at b (v.events_at + 3 * e)) r
      → c ≡ two b (v.jobs_at + v.job_row * r.job)
      → x ≡ event_from r.kind r.fact
      → Some (c, x) ≡ row_of (sheet_of b) e
  unfolding meaning
  row_of_lem l {r} {c} {x} p pc px = here ∙ ap (λ s. row_of s e) (sheet_means w)
    where
      here : Some (c, x) ≡ row_of (meaning v b) e
      here = let t : ltb e v.events ≡ true = lt-ltb e v.events l in rw (t, pc, px, p.job, p.kind, p.fact) refl

  pub row_end : v.events ≤ e → None ≡ row_of (sheet_of b) e
  unfolding meaning
  row_end l = here ∙ ap (λ s. row_of s e) (sheet_means w)
    where
      here : None ≡ row_of (meaning v b) e
      here = let t : ltb e v.events ≡ false = le-ltb e v.events l in rw t refl
