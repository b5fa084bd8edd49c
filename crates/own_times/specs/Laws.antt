-- What callers conclude from own times and from the stride, and the empty table.
use Rattle.std.specs.Prelude.{ℕ, zero, suc, ◌+◌, ◌*◌, ◌/◌, ◌%◌, ◌≤◌, ◌<◌, ◌≡◌, refl, List, length, get_or}
use Rattle.std.proofs.Common.{arith, mul-le-mul, ◌∙◌}
use Rattle.rules.specs.Sheet.{Sheet, clears, max_facts, max_events, max_bounds}
use Rattle.laws.specs.Limits.{most_facts, most_events}
use Rattle.sheet.specs.View.{meaning, IsFormed, type_of, fact_of, event_from}
use Rattle.sheet.specs.declared.Sheet as code
use Rattle.sheet.specs.declared.Event.{Event}
use Rattle.index.specs.View.{ByJobOf, KeysOf}
use Rattle.index.specs.Laws.{event_of_lem}
use Rattle.own_times.specs.Rules.{bound_rules, most_rules}
use Rattle.own_times.specs.Wide.{Filled}
use Rattle.own_times.specs.View.{StrideIs}

-- the figures are those of the definitions
pub figures : (most_facts ≡ max_facts) × (most_events ≡ max_events) × (bound_rules ≡ 2 * max_bounds) × (most_rules ≡ 2 * max_bounds + max_events / 2)
unfolding max_facts max_events max_bounds
figures = (refl, refl, refl, refl)

-- no job has more events than the sheet
pub stride_few : {s : Sheet} {jobs : List ℕ} {m : ℕ} → ByJobOf s jobs → StrideIs s.jobs jobs m → m ≤ s.events
stride_few {s} p q = q.least s.events (λ j l. omega (arith, p.within (j + 1) (omega arith)))

-- the room that the table takes at most
pub table_room : (m events : ℕ) → m ≤ most_events → events ≤ most_events → events + m * events + events ≤ (most_events + 2) * most_events
table_room m events p q = let h : m * events ≤ most_events * most_events = mul-le-mul p q in omega arith

-- no row is there yet
pub Filled-none
    : {s : Sheet} {n m : ℕ} {table : List ℕ}
    → s.events ≤ n
    → n + m * s.events + s.events ≤ length table
    → ((x : ℕ) → x < s.events → get_or table x 0 ≡ 0)
    → Filled s n m table
Filled-none marks room none = record { marks = marks; room = room; rows = λ x l h. absurd (omega (arith, none x l)) }

-- ---- a decoded event

pub decoded : (x : Event) (k f : ℕ) → k ≤ clears → x ≡ event_from k f → (type_of x ≡ k) × (fact_of x ≡ f)
unfolding event_from
decoded x zero f l q = rw q (refl, refl)
decoded x (suc zero) f l q = rw q (refl, refl)
decoded x (suc (suc zero)) f l q = rw q (refl, refl)
decoded x (suc (suc (suc zero))) f l q = rw q (refl, refl)
decoded x (suc (suc (suc (suc k)))) f l q = absurd (omega arith)

-- the type of event e, by its key
pub type_at
    : {v : code.Sheet} {b keys : List ℕ}
    → IsFormed v b
    → KeysOf (meaning v b) keys
    → (e : ℕ)
    → e < (meaning v b).events
    → {key : ℕ} {x : Event}
    → key ≡ get_or keys e 0
    → x ≡ event_from (key / most_facts) (key % most_facts)
    → type_of x ≡ ((meaning v b).event e).kind
type_at w k e l q is = (decoded _ _ _ (w.formed.kind e l) (is ∙ event_of_lem w k e l q)).0
