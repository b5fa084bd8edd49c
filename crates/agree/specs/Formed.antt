-- Well-formedness goes over between sheets that agree; so two well-formed ones that agree are one notion, `Alike`.
use Rattle.std.specs.Prelude.{◌≡◌, true}
use Rattle.rules.specs.Sheet.{Sheet, well_formed}
use Rattle.laws.specs.Formed.{Formed, formed}
use Rattle.laws.specs.SameForm.{well_formed_same}
use Rattle.agree.specs.Agree.{Agree, agree_sym, says_same}

pub record Alike (s t : Sheet) : Type 0 where
  pub agree : Agree s t
  pub one : Formed s
  pub other : Formed t

pub alike : {s t : Sheet} → Agree s t → well_formed s ≡ true → Alike s t
alike {s} {t} a w = record { agree = a; one = formed s w; other = formed t (well_formed_same (says_same a) a.gap w) }

pub flip : {s t : Sheet} → Alike s t → Alike t s
flip h = record { agree = agree_sym h.agree; one = h.other; other = h.one }
