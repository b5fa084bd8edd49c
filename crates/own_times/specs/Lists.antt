-- From the list of rules to their rows.
use Rattle.std.specs.Prelude.{ℕ, ◌≤◌, ◌<◌, ◌≡◌, refl, List, length, get_or}
use Rattle.std.proofs.Common.{arith, sym, subst, inl, inr, ⊎_elim}
use Rattle.rules.specs.Sheet as rules
use Rattle.sheet.specs.View.{meaning, IsFormed}
use Rattle.sheet.specs.declared.Sheet.{Sheet}
use Rattle.kernel_rows.specs.RuleList.{Given, Built}
use Rattle.own_times.specs.Rules.{most_rules, Rules, OwnRule, Has, RuleInList, ListRoom}
use Rattle.own_times.specs.View.{RowsAre, OwnList}
use Rattle.own_times.specs.Times.{same_job_lem}

-- a rule's events are of the sheet, and of one job
abbrev pub InSheet : rules.Sheet → Rules → Type 0
InSheet s P = (a b w : ℕ) → P a b w → (a < s.events) × (b < s.events) × ((s.event a).job ≡ (s.event b).job)

module _ (s : rules.Sheet) (P : Rules) (in_sheet : InSheet s P) {from to weight : List ℕ} {n : ℕ}
    (has : Has s.horizon P (RuleInList from to weight n)) where
  -- what making the rows asks
  list_given : n ≤ most_rules → ListRoom from to weight most_rules → Given from to weight n s.events
  list_given l room =
      record {
        few = omega arith;
        sources = omega (arith, room.sources);
        targets = omega (arith, room.targets);
        weights = omega (arith, room.weights);
        known =
            λ i k.
            (in_sheet (get_or from i 0) (get_or to i 0) (get_or weight i 0)
            (has.sound _ _ _ (record { place = i; below = k; source = refl; target = refl; weighs = refl }))
            ).0;
      }

  -- rows made from a list have what the list has
  list_rows
      : (first targets weights : List ℕ)
      → Built from to weight n s.events first targets weights
      → s.events < length first
      → n ≤ length targets
      → n ≤ length weights
      → RowsAre s P first targets weights
  list_rows first targets weights built lf lt lw =
      let alike = built.alike 0 s.events s.horizon (omega arith) in
      record {
        has =
            record {
              sound =
                  λ a b w r.
                  let l = alike.back a b w r in
                  has.sound a b w
                  (record { place = l.place; below = l.below; source = l.source; target = l.target; weighs = l.weighs });
              whole =
                  λ a b w p.
                  ⊎_elim
                  inl
                  (λ l.
                  inr
                  (alike.into a b w
                  (record {
                    place = l.place;
                    below = l.below;
                    of = record { from = omega arith; below = (in_sheet a b w p).0 };
                    source = l.source;
                    target = l.target;
                    weighs = l.weighs;
                  })))
                  (has.whole a b w p);
            };
        rows = lf;
        targets = λ a l. omega (arith, built.few a l);
        weights = λ a l. omega (arith, built.few a l);
      }

-- ---- the rules of own times

module _ {v : Sheet} {b : List ℕ} (formed : IsFormed v b) {from to weight : List ℕ} {n : ℕ} (list : OwnList (meaning v b) from to weight n) where
  ins : InSheet (meaning v b) (OwnRule (meaning v b))
  ins = same_job_lem (meaning v b) formed.formed

  pub own_given : ListRoom from to weight most_rules → Given from to weight n v.events
  own_given room =
      subst (Given from to weight n) (sym formed.sheet.events)
      (list_given (meaning v b) (OwnRule (meaning v b)) ins list.has list.count room)

  pub own_rows
      : {first targets weights : List ℕ}
      → Built from to weight n v.events first targets weights
      → v.events < length first
      → most_rules ≤ length targets
      → most_rules ≤ length weights
      → RowsAre (meaning v b) (OwnRule (meaning v b)) first targets weights
  own_rows {first} {targets} {weights} built lf lt lw =
      list_rows (meaning v b) (OwnRule (meaning v b)) ins list.has _ _ _
      (subst (λ i. Built from to weight n i first targets weights) formed.sheet.events built)
      (omega (arith, formed.sheet.events))
      (omega (arith, list.count))
      (omega (arith, list.count))

-- the last row ends within the list
pub rows_few
    : {from to weight first targets weights : List ℕ} {n k m : ℕ}
    → Built from to weight n k first targets weights
    → k ≡ m
    → n ≤ most_rules
    → get_or first m 0 ≤ most_rules
rows_few {k = k} p q h = rw (sym q) (omega (arith, p.few k (omega arith)))
