-- Nobody gives 15: neither the planner nor the judge, nor rewriting.
use Rattle.std.specs.Prelude.{ℕ, ◌≢◌, List}
use Rattle.std.proofs.Common.{arith, ⊎_elim}
use Rattle.rules.specs.Answer.{Planned, Judged}
use Rattle.rules.specs.Rewrite.{ToEdition2, ToEdition1}
use Rattle.laws.specs.Faults.{fault_small, sheet_numbers, fault_numbers}
use Rattle.theory.specs.Why.Answers.{judged_numbers}

pub never_15 : {b w o : List ℕ} {n d : ℕ} → Planned b w n d o → n ≢ 15
never_15 {b} (Planned.bad_sheet h) q = omega (arith, fault_small (sheet_numbers b))
never_15 (Planned.rule1 f h r) q = omega arith
never_15 (Planned.rule2 f h p r) q = omega arith
never_15 (Planned.rule3 f h p k r) q = omega arith
never_15 (Planned.no_plan p r) q = omega arith
never_15 (Planned.short l p r m) q = omega arith
never_15 (Planned.plan l p r m) q = omega arith

pub never_15_judged : {b l : List ℕ} {n d : ℕ} → Judged b l n d → n ≢ 15
never_15_judged j q = ⊎_elim (λ l. omega arith) (⊎_elim (λ e. omega arith) (λ e. omega arith)) (judged_numbers j)

pub never_15_there : {b w o : List ℕ} {n d : ℕ} → ToEdition2 b w n d o → n ≢ 15
never_15_there {b} (ToEdition2.bad_sheet h) q = omega (arith, fault_small (fault_numbers 1 b))
never_15_there (ToEdition2.short c h r l) q = omega arith
never_15_there (ToEdition2.written c h r l) q = omega arith

pub never_15_back : {b w o : List ℕ} {n d : ℕ} → ToEdition1 b w n d o → n ≢ 15
never_15_back {b} (ToEdition1.bad_sheet h) q = omega (arith, fault_small (fault_numbers 2 b))
never_15_back (ToEdition1.no_way_back h g) q = omega arith
never_15_back (ToEdition1.short c h g r l) q = omega arith
never_15_back (ToEdition1.written c h g r l) q = omega arith
