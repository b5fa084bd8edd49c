-- That the demands hold.
use Rattle.std.specs.Prelude.{ℕ, ◌≤◌, ◌<◌, ◌≡◌, refl, ◌≢◌, ◌↔◌, ◌⊎◌, List, ◌++◌, length, drop}
use Rattle.std.proofs.Common.{arith, subst, inl, inr}
use Rattle.std.proofs.Math.Decide.{dec_lt}
use Rattle.std.proofs.Math.Logic.{⊎_elim, dite}
use Rattle.rules.specs.Count.{None, Lowest}
use Rattle.rules.specs.Sheet.{sheet_of, sheet_fault, fault_in}
use Rattle.rules.specs.RunList.{Plan, plan_of}
use Rattle.rules.specs.Plan.{IsPlan}
use Rattle.rules.specs.Wanted.{LeastList}
use Rattle.rules.specs.Class.{TwoSetters, WantedUnordered, UnwantedUnordered, Inside}
use Rattle.rules.specs.Answer.{Judged, Planned, Plannable}
use Rattle.rules.specs.Rewrite.{ToEdition2, ToEdition1}
use Rattle.rules.specs.Late.{delayed_of, Tried, Late, Run, Fresh, Moved, MovedOn}
use Rattle.rules.specs.Cost.{Costed}
use Rattle.rules.specs.Newer.{Which, Newer, NewerInC}
use Rattle.laws.specs.Limits.{AllBytes}
use Rattle.laws.specs.Formed.{formed}
use Rattle.laws.specs.Faults.{FaultNumber, sheet_numbers, fault_numbers, well_formed_lem}
use Rattle.theory.specs.Statements.{Present, Demand}
use Rattle.theory.specs.Theorem.{demand, answers}
use Rattle.theory.specs.Why.Answers.{accepted}
use Rattle.theory.specs.Why.Same.{SameRun}
use Rattle.theory.specs.Why.Unique.{judged_unique, planned_unique}
use Rattle.editions.specs.Unique.{to_edition2_unique, to_edition1_unique}
use Rattle.late_starts.specs.Answers.{Refusal, by_judge, by_delays, late_cases, moved_cases, Found, a_plan, no_plan, late_unique, moved_unique, fresh_unique, refused_stays, refused_keeps}
use Rattle.late_starts.specs.DelayedList.{delayed_list, delayed_bytes, says_delayed, delayed_list_lem}
use Rattle.billing.specs.Answers.{costed_unique, refused_zero}
use Rattle.revisions.specs.Answers.{newer_unique, newer_numbers, refused_empty, zero_part}
use Rattle.revisions.specs.InC.{newer_in_c_unique, no_detail, refused_in_c}
use Rattle.demands.specs.Longest.{least_list_short}
use Rattle.demands.specs.Demands.{
  BadSheet,
  PlannerNumber,
  JudgeNumber,
  FreshNumber,
  ThereNumber,
  BackNumber,
  CostNumber,
  NewerNumber,
  Demand1,
  Demand2,
  Demand3,
  Written,
  LeastOfAll,
  OfJudge,
  OfRewriting,
  OfLate,
  OfFresh,
  OfMoved,
  OfCost,
  OfNewer,
  OfNewerInC,
  Never15,
  Demands,
}

-- ---- numbers

-- a fault's number is none or one of 10 to 14
one_of : {n : ℕ} {A : Type 0} → FaultNumber n → (n ≡ 0) ⊎ BadSheet n ⊎ A
one_of f = ⊎_elim inl (λ p. inr (inl p)) f

-- and one of them where there is a fault
a_fault : {n : ℕ} → FaultNumber n → n ≢ 0 → BadSheet n
a_fault f bad = ⊎_elim (λ z. absurd (bad z)) (λ p. p) f

-- ---- the planner: 1

module _ {b w : List ℕ} where
  numbered : {n d : ℕ} {o : List ℕ} → Planned b w n d o → PlannerNumber n
  numbered (Planned.bad_sheet h) = inr (inl (a_fault (sheet_numbers b) h))
  numbered (Planned.rule1 f h r) = inr (inr (inl refl))
  numbered (Planned.rule2 f h p r) = inr (inr (inr (inl refl)))
  numbered (Planned.rule3 f h p k r) = inr (inr (inr (inr (inl refl))))
  numbered (Planned.no_plan p r) = inr (inr (inr (inr (inr (inl refl)))))
  numbered (Planned.short l p r m) = inr (inr (inr (inr (inr (inr refl)))))
  numbered (Planned.plan l p r m) = inl refl

  faults : {n d : ℕ} {o : List ℕ} → Planned b w n d o → sheet_fault b ≢ 0 → n ≡ sheet_fault b
  faults given bad = (planned_unique given (Planned.bad_sheet bad)).0

  faultless : {n d : ℕ} {o : List ℕ} → Planned b w n d o → sheet_fault b ≡ 0 → BadSheet n → ⊥
  faultless (Planned.bad_sheet h) fine q = h fine
  faultless (Planned.rule1 f h r) fine q = omega arith
  faultless (Planned.rule2 f h p r) fine q = omega arith
  faultless (Planned.rule3 f h p k r) fine q = omega arith
  faultless (Planned.no_plan p r) fine q = omega arith
  faultless (Planned.short l p r m) fine q = omega arith
  faultless (Planned.plan l p r m) fine q = omega arith

  unchanged : {n d : ℕ} {o : List ℕ} → Planned b w n d o → n ≢ 0 → o ≡ w
  unchanged (Planned.bad_sheet h) g = refl
  unchanged (Planned.rule1 f h r) g = refl
  unchanged (Planned.rule2 f h p r) g = refl
  unchanged (Planned.rule3 f h p k r) g = refl
  unchanged (Planned.no_plan p r) g = refl
  unchanged (Planned.short l p r m) g = refl
  unchanged (Planned.plan l p r m) g = absurd (g refl)

  detail : {n d : ℕ} {o : List ℕ} → Planned b w n d o → BadSheet n ⊎ (n ≡ 1) → d ≡ 0
  detail (Planned.bad_sheet h) q = refl
  detail (Planned.rule1 f h r) q = absurd (⊎_elim (λ p. omega arith) (λ p. omega arith) q)
  detail (Planned.rule2 f h p r) q = absurd (⊎_elim (λ p. omega arith) (λ p. omega arith) q)
  detail (Planned.rule3 f h p k r) q = absurd (⊎_elim (λ p. omega arith) (λ p. omega arith) q)
  detail (Planned.no_plan p r) q = refl
  detail (Planned.short l p r m) q = absurd (⊎_elim (λ p. omega arith) (λ p. omega arith) q)
  detail (Planned.plan l p r m) q = absurd (⊎_elim (λ p. omega arith) (λ p. omega arith) q)

  demand1 : {n d : ℕ} {o : List ℕ} → Planned b w n d o → Demand1 b w n d o
  demand1 given =
      record {
        numbered = numbered given;
        one = λ m e x other. planned_unique other given;
        faults = faults given;
        faultless = faultless given;
        unchanged = unchanged given;
        detail = detail given;
      }

-- ---- 2

-- what a number of the class says
module _ {b w : List ℕ} where
  broken : {n d : ℕ} {o : List ℕ} → Planned b w n d o → n ≡ 20 → Lowest (TwoSetters (sheet_of b)) (sheet_of b).facts d
  broken (Planned.bad_sheet h) q = absurd (omega (arith, a_fault (sheet_numbers b) h))
  broken (Planned.rule1 f h r) q = r
  broken (Planned.rule2 f h p r) q = absurd (omega arith)
  broken (Planned.rule3 f h p k r) q = absurd (omega arith)
  broken (Planned.no_plan p r) q = absurd (omega arith)
  broken (Planned.short l p r m) q = absurd (omega arith)
  broken (Planned.plan l p r m) q = absurd (omega arith)

  broken2 : {n d : ℕ} {o : List ℕ} → Planned b w n d o → n ≡ 21 → Lowest (WantedUnordered (sheet_of b)) (sheet_of b).facts d
  broken2 (Planned.bad_sheet h) q = absurd (omega (arith, a_fault (sheet_numbers b) h))
  broken2 (Planned.rule1 f h r) q = absurd (omega arith)
  broken2 (Planned.rule2 f h p r) q = r
  broken2 (Planned.rule3 f h p k r) q = absurd (omega arith)
  broken2 (Planned.no_plan p r) q = absurd (omega arith)
  broken2 (Planned.short l p r m) q = absurd (omega arith)
  broken2 (Planned.plan l p r m) q = absurd (omega arith)

  broken3 : {n d : ℕ} {o : List ℕ} → Planned b w n d o → n ≡ 22 → Lowest (UnwantedUnordered (sheet_of b)) (sheet_of b).facts d
  broken3 (Planned.bad_sheet h) q = absurd (omega (arith, a_fault (sheet_numbers b) h))
  broken3 (Planned.rule1 f h r) q = absurd (omega arith)
  broken3 (Planned.rule2 f h p r) q = absurd (omega arith)
  broken3 (Planned.rule3 f h p k r) q = r
  broken3 (Planned.no_plan p r) q = absurd (omega arith)
  broken3 (Planned.short l p r m) q = absurd (omega arith)
  broken3 (Planned.plan l p r m) q = absurd (omega arith)

  refuses : {n d : ℕ} {o : List ℕ} → Planned b w n d o → sheet_fault b ≡ 0 → (Inside (sheet_of b) → ⊥) → (n ≡ 20) ⊎ (n ≡ 21) ⊎ (n ≡ 22)
  refuses (Planned.bad_sheet h) fine g = absurd (h fine)
  refuses (Planned.rule1 f h r) fine g = inl refl
  refuses (Planned.rule2 f h p r) fine g = inr (inl refl)
  refuses (Planned.rule3 f h p k r) fine g = inr (inr refl)
  refuses (Planned.no_plan p r) fine g = absurd (g p.inside)
  refuses (Planned.short l p r m) fine g = absurd (g p.inside)
  refuses (Planned.plan l p r m) fine g = absurd (g p.inside)

  demand2 : {n d : ℕ} {o : List ℕ} → Planned b w n d o → Demand2 b n d
  unfolding None
  demand2 {n} {d} given =
      let s = sheet_of b in
      record {
        first = λ fine f. (
          λ (q, e). rw (← e) (broken given q),
          λ low. let same = planned_unique given (Planned.rule1 f fine low) in (same.0, same.1),
        );
        second = λ fine one f. (
          λ (q, e). rw (← e) (broken2 given q),
          λ low. let same = planned_unique given (Planned.rule2 f fine one low) in (same.0, same.1),
        );
        third = λ fine one two f. (
          λ (q, e). rw (← e) (broken3 given q),
          λ low. let same = planned_unique given (Planned.rule3 f fine one two low) in (same.0, same.1),
        );
        outside = λ fine. (
          ⊎_elim
              (λ q inside. let low = broken given q in inside.one_setter d low.below low.has)
              (⊎_elim (λ q inside. let low = broken2 given q in inside.ordered d low.below low.has)
              (λ q inside. let low = broken3 given q in inside.unwanted_ordered d low.below low.has)),
          refuses given fine,
        );
      }

-- ---- 3

module _ {b : List ℕ} (able : Plannable b) where
  holds : Demand (sheet_of b)
  holds = demand (well_formed_lem b able.formed) able.inside

  least_of_all : (l : List ℕ) → LeastList (sheet_of b) l → LeastOfAll b l
  unfolding Present
  least_of_all l least =
      record {
        accepted = (answers b).accepted l able least;
        none_lacks = λ p plan. (holds.of_least_list l least p plan).none_lacks;
        none_earlier = λ p plan. (holds.of_least_list l least p plan).none_earlier;
        short = least_list_short (formed (sheet_of b) (well_formed_lem b able.formed)) least;
      }

module _ {b w : List ℕ} (able : Plannable b) where
  none : {n d : ℕ} {o : List ℕ} → Planned b w n d o → n ≡ 1 → (p : Plan) → IsPlan (sheet_of b) p → ⊥
  none (Planned.bad_sheet h) q = absurd (h able.formed)
  none (Planned.rule1 f h r) q = absurd (omega arith)
  none (Planned.rule2 f h p r) q = absurd (omega arith)
  none (Planned.rule3 f h p k r) q = absurd (omega arith)
  none (Planned.no_plan p r) q = r
  none (Planned.short l p r m) q = absurd (omega arith)
  none (Planned.plan l p r m) q = absurd (omega arith)

  otherwise : {n d : ℕ} {o : List ℕ} → Planned b w n d o → n ≢ 1 → (l : List ℕ) × LeastList (sheet_of b) l
  unfolding None
  otherwise (Planned.bad_sheet h) q = absurd (h able.formed)
  otherwise (Planned.rule1 f h r) q = absurd (able.inside.one_setter f r.below r.has)
  otherwise (Planned.rule2 f h p r) q = absurd (able.inside.ordered f r.below r.has)
  otherwise (Planned.rule3 f h p k r) q = absurd (able.inside.unwanted_ordered f r.below r.has)
  otherwise (Planned.no_plan p r) q = absurd (q refl)
  otherwise (Planned.short l p r m) q = (l, r)
  otherwise (Planned.plan l p r m) q = (l, r)

  module _ {n d : ℕ} {o : List ℕ} (given : Planned b w n d o) (l : List ℕ) (least : LeastList (sheet_of b) l) where
    as_short : length w < length l → (n ≡ 30) × (d ≡ length l) × (o ≡ w)
    as_short m = planned_unique given (Planned.short l able least m)

    as_plan : length l ≤ length w → (n ≡ 0) × (d ≡ length l) × (o ≡ l ++ drop (length l) w)
    as_plan m = planned_unique given (Planned.plan l able least m)

    room : (length w < length l) ⊎ (length l ≤ length w)
    room = dite (dec_lt (length w) (length l)) inl (λ g. inr (omega (arith, g)))

    written : Written l w n d o
    written =
        record {
          plan = (λ q. ⊎_elim (λ m. absurd (omega (arith, (as_short m).0))) (λ m. m) room, λ m. (as_plan m).0);
          short = (λ q. ⊎_elim (λ m. m) (λ m. absurd (omega (arith, (as_plan m).0))) room, λ m. (as_short m).0);
          its_length = ⊎_elim (λ m. (as_short m).1) (λ m. (as_plan m).1) room;
          its_bytes = λ q. ⊎_elim (λ m. absurd (omega (arith, (as_short m).0))) (λ m. (as_plan m).2) room;
        }

  demand3 : {n d : ℕ} {o : List ℕ} → Planned b w n d o → Demand3 b w n d o
  demand3 given =
      record {
        no_plan = (none given, λ r. (planned_unique given (Planned.no_plan able r)).0);
        otherwise = otherwise given;
        only = (holds able).unique;
        written = written given;
        least = least_of_all able;
      }

-- ---- the judge

judge_number : {b l : List ℕ} {n d : ℕ} → Judged b l n d → JudgeNumber n
judge_number {b} (Judged.bad_sheet g) = inr (inl (a_fault (sheet_numbers b) g))
judge_number (Judged.bad_list h g) = inr (inr (inl refl))
judge_number (Judged.no_plan h k g) = inr (inr (inr refl))
judge_number (Judged.is_plan h k p) = inl refl

module _ {b l : List ℕ} where
  judge_faultless : {n d : ℕ} → Judged b l n d → sheet_fault b ≡ 0 → BadSheet n → ⊥
  judge_faultless (Judged.bad_sheet h) fine q = h fine
  judge_faultless (Judged.bad_list h k) fine q = omega arith
  judge_faultless (Judged.no_plan h k g) fine q = omega arith
  judge_faultless (Judged.is_plan h k p) fine q = omega arith

  judge_detail : {n d : ℕ} → Judged b l n d → d ≡ 0
  judge_detail (Judged.bad_sheet h) = refl
  judge_detail (Judged.bad_list h k) = refl
  judge_detail (Judged.no_plan h k g) = refl
  judge_detail (Judged.is_plan h k p) = refl

  as_zero : {n d : ℕ} → Judged b l n d → n ≡ 0 → Judged b l 0 0
  as_zero {n} {d} given q = subst (λ (e : ℕ). Judged b l 0 e) (judge_detail given) (subst (λ (m : ℕ). Judged b l m d) q given)

  judge : {n d : ℕ} → Judged b l n d → OfJudge b l n d
  judge given =
      record {
        numbered = judge_number given;
        one = λ m e other. judged_unique other given;
        faults = λ bad. (judged_unique given (Judged.bad_sheet bad)).0;
        faultless = judge_faultless given;
        detail = judge_detail given;
        yes = (λ q. accepted (as_zero given q), λ (h, k, p). (judged_unique given (Judged.is_plan h k p)).0);
      }

-- ---- rewriting

module _ {b w : List ℕ} where
  there_numbered : {n d : ℕ} {o : List ℕ} → ToEdition2 b w n d o → ThereNumber n
  there_numbered (ToEdition2.bad_sheet h) = inr (inl (a_fault (fault_numbers 1 b) h))
  there_numbered (ToEdition2.short c h r l) = inr (inr refl)
  there_numbered (ToEdition2.written c h r l) = inl refl

  there_faultless : {n d : ℕ} {o : List ℕ} → ToEdition2 b w n d o → fault_in 1 b ≡ 0 → BadSheet n → ⊥
  there_faultless (ToEdition2.bad_sheet h) fine q = h fine
  there_faultless (ToEdition2.short c h r l) fine q = omega arith
  there_faultless (ToEdition2.written c h r l) fine q = omega arith

  there_unchanged : {n d : ℕ} {o : List ℕ} → ToEdition2 b w n d o → n ≢ 0 → o ≡ w
  there_unchanged (ToEdition2.bad_sheet h) g = refl
  there_unchanged (ToEdition2.short c h r l) g = refl
  there_unchanged (ToEdition2.written c h r l) g = absurd (g refl)

  there_detail : {n d : ℕ} {o : List ℕ} → ToEdition2 b w n d o → BadSheet n ⊎ (n ≡ 50) → d ≡ 0
  there_detail (ToEdition2.bad_sheet h) q = refl
  there_detail (ToEdition2.short c h r l) q = absurd (⊎_elim (λ p. omega arith) (λ p. omega arith) q)
  there_detail (ToEdition2.written c h r l) q = absurd (⊎_elim (λ p. omega arith) (λ p. omega arith) q)

  to_edition2 : {n d : ℕ} {o : List ℕ} → ToEdition2 b w n d o → OfRewriting (ToEdition2 b w) 1 b w n d o
  to_edition2 given =
      record {
        one = λ m c x other. to_edition2_unique other given;
        faults = λ bad. (to_edition2_unique given (ToEdition2.bad_sheet bad)).0;
        faultless = there_faultless given;
        unchanged = there_unchanged given;
        detail = there_detail given;
      }

  back_numbered : {n d : ℕ} {o : List ℕ} → ToEdition1 b w n d o → BackNumber n
  back_numbered (ToEdition1.bad_sheet h) = inr (inr (inl (a_fault (fault_numbers 2 b) h)))
  back_numbered (ToEdition1.no_way_back h g) = inl refl
  back_numbered (ToEdition1.short c h g r l) = inr (inr (inr refl))
  back_numbered (ToEdition1.written c h g r l) = inr (inl refl)

  back_faultless : {n d : ℕ} {o : List ℕ} → ToEdition1 b w n d o → fault_in 2 b ≡ 0 → BadSheet n → ⊥
  back_faultless (ToEdition1.bad_sheet h) fine q = h fine
  back_faultless (ToEdition1.no_way_back h g) fine q = omega arith
  back_faultless (ToEdition1.short c h g r l) fine q = omega arith
  back_faultless (ToEdition1.written c h g r l) fine q = omega arith

  back_unchanged : {n d : ℕ} {o : List ℕ} → ToEdition1 b w n d o → n ≢ 0 → o ≡ w
  back_unchanged (ToEdition1.bad_sheet h) z = refl
  back_unchanged (ToEdition1.no_way_back h g) z = refl
  back_unchanged (ToEdition1.short c h g r l) z = refl
  back_unchanged (ToEdition1.written c h g r l) z = absurd (z refl)

  back_detail : {n d : ℕ} {o : List ℕ} → ToEdition1 b w n d o → BadSheet n ⊎ (n ≡ 50) → d ≡ 0
  back_detail (ToEdition1.bad_sheet h) q = refl
  back_detail (ToEdition1.no_way_back h g) q = refl
  back_detail (ToEdition1.short c h g r l) q = absurd (⊎_elim (λ p. omega arith) (λ p. omega arith) q)
  back_detail (ToEdition1.written c h g r l) q = absurd (⊎_elim (λ p. omega arith) (λ p. omega arith) q)

  to_edition1 : {n d : ℕ} {o : List ℕ} → ToEdition1 b w n d o → OfRewriting (ToEdition1 b w) 2 b w n d o
  to_edition1 given =
      record {
        one = λ m c x other. to_edition1_unique other given;
        faults = λ bad. (to_edition1_unique given (ToEdition1.bad_sheet bad)).0;
        faultless = back_faultless given;
        unchanged = back_unchanged given;
        detail = back_detail given;
      }

-- ---- late starts

module _ {b l r : List ℕ} where
  refusal_number : {n : ℕ} → Refusal b l r n → JudgeNumber n
  refusal_number (by_judge j g) = judge_number j
  refusal_number (by_delays j g q) = inr (inr (inl q))

  late_number : {n d : ℕ} → Late b l r n d → JudgeNumber n
  late_number x = ⊎_elim (λ p. refusal_number p.0) (λ p. found p.1) (late_cases x)
    where
      found : {n d : ℕ} → Found b l r n d → JudgeNumber n
      found (a_plan p n t) = inl n
      found (no_plan g n t) = inr (inr (inr n))

  late_detail : {n d : ℕ} → Late b l r n d → n ≢ 41 → d ≡ 0
  late_detail {n} {d} x g = ⊎_elim (λ p. p.1) (λ p. found p.1) (late_cases x)
    where
      found : Found b l r n d → d ≡ 0
      found (a_plan p q t) = t
      found (no_plan h q t) = absurd (g q)

  late_zero : {n d : ℕ} → Late b l r n d → n ≡ 0 → Late b l r 0 0
  late_zero {n} {d} given q =
      let e = late_detail given (λ z. omega arith) in
      subst (λ (x : ℕ). Late b l r 0 x) e (subst (λ (x : ℕ). Late b l r x d) q given)

  in_bytes
      : {n d : ℕ}
      → Late b l r n d
      → AllBytes b
      → Tried b l r
      → (m : List ℕ) × AllBytes m × SameRun (sheet_of b) (plan_of (sheet_of b) m) (delayed_of b l r) × ((n ≡ 0) ↔ Judged b m 0 0)
  unfolding delayed_of
  in_bytes given bytes tried =
      let exactly = delayed_list_lem bytes tried in (
        delayed_list bytes tried,
        delayed_bytes bytes tried,
        says_delayed bytes tried,
        (λ q. exactly.1 (late_zero given q), λ j. (late_unique given (exactly.0 j)).0),
      )

  late : {n d : ℕ} → Late b l r n d → OfLate b l r n d
  late given =
      record {
        numbered = late_number given;
        one = λ m e other. late_unique other given;
        refused = λ m j g. late_unique given (Late.refused m j g);
        detail = late_detail given;
        in_bytes = in_bytes given;
      }

  moved : {old new : Run} {n : ℕ} → Moved b l r old n new → OfMoved b l r old n new
  moved given =
      record {
        numbered = ⊎_elim (λ p. refusal_number p.0) (λ p. inl p.1) (moved_cases given);
        one = λ m x other. moved_unique other given;
        refused = λ m j g. (moved_unique given (Moved.refused m j g)).0;
        unchanged = refused_stays given;
      }

module _ {b : List ℕ} {old : ℕ} where
  fresh_number : {n new : ℕ} → Fresh b old n new → FreshNumber n
  fresh_number (Fresh.bad_sheet g) = inr (a_fault (sheet_numbers b) g)
  fresh_number (Fresh.fresh h p x) = inl refl

  fresh_before : {n new : ℕ} → Fresh b old n new → n ≡ 0 → (l r : List ℕ) → MovedOn b l r 0 (record { next = 0; held = new })
  fresh_before (Fresh.bad_sheet g) q l r = absurd (g q)
  fresh_before (Fresh.fresh h p x) q l r = MovedOn.start old h (Fresh.fresh h p x)

  fresh : {n new : ℕ} → Fresh b old n new → OfFresh b old n new
  fresh given =
      record {
        numbered = fresh_number given;
        one = λ m x other. fresh_unique other given;
        faults = λ bad. (fresh_unique given (Fresh.bad_sheet bad)).0;
        unchanged = refused_keeps given;
        before = fresh_before given;
      }

-- ---- what a run costs, which sheet counts

module _ {b l r : List ℕ} where
  cost_number : {n c x : ℕ} → Costed b l r n c x → CostNumber n
  cost_number (Costed.refused n j g) = inl (judge_number j)
  cost_number (Costed.bad_rates j g) = inr refl
  cost_number (Costed.billed j g) = inl (inl refl)

  cost : {n c x : ℕ} → Costed b l r n c x → OfCost b l r n c x
  cost given =
      record {
        numbered = cost_number given;
        one = λ m c x other. costed_unique other given;
        refused = λ m j g. (costed_unique given (Costed.refused m j g)).0;
        nothing = refused_zero given;
      }

module _ {a b : List ℕ} where
  newer_number : {n : ℕ} {w : Which} → Newer a b n w → NewerNumber n
  newer_number x = ⊎_elim one_of (λ q. inr (inr q)) (newer_numbers x)

  newer : {n : ℕ} {w : Which} → Newer a b n w → OfNewer a b n w
  newer {n} {w} given =
      record {
        numbered = newer_number given;
        one = λ m x other. newer_unique other given;
        faults = λ bad. (newer_unique given (Newer.bad_first bad)).0;
        second_faults = λ fine bad. (newer_unique given (Newer.bad_second fine bad)).0;
        empty = refused_empty given;
        whole = λ q. ⊎_elim (λ p. inl p.1) (λ p. inr p.1) (zero_part (subst (λ (m : ℕ). Newer a b m w) q given));
      }

  newer_in_c : {n d x y : ℕ} → NewerInC a b n d x y → OfNewerInC a b n d x y
  newer_in_c given =
      record {
        numbered = number given;
        one = λ m e x y other. newer_in_c_unique other given;
        detail = no_detail given;
        nothing = refused_in_c given;
      }
    where
      number : {n d x y : ℕ} → NewerInC a b n d x y → NewerNumber n
      number (NewerInC.told n w h) = newer_number h

-- ---- all of it

not_fault : {n : ℕ} → BadSheet n → n ≢ 15
not_fault p q = omega arith

never_judge : (n : ℕ) → JudgeNumber n → n ≢ 15
never_judge n p =
    ⊎_elim (λ z q. omega arith) (⊎_elim not_fault (⊎_elim (λ z q. omega arith) (λ z q. omega arith))) p

never_there : (n : ℕ) → ThereNumber n → n ≢ 15
never_there n p = ⊎_elim (λ z q. omega arith) (⊎_elim not_fault (λ z q. omega arith)) p

never_15 : Never15
never_15 =
    record {
      planner = λ n p.
          ⊎_elim (λ z q. omega arith)
          (⊎_elim not_fault
          (⊎_elim (λ z q. omega arith)
          (⊎_elim (λ z q. omega arith) (⊎_elim (λ z q. omega arith) (⊎_elim (λ z q. omega arith) (λ z q. omega arith))))))
          p;
      judge = never_judge;
      fresh = λ n p. ⊎_elim (λ z q. omega arith) not_fault p;
      there = never_there;
      back = λ n p. ⊎_elim (λ z q. omega arith) (never_there n) p;
      cost = λ n p. ⊎_elim (never_judge n) (λ z q. omega arith) p;
      newer = λ n p. ⊎_elim (λ z q. omega arith) (⊎_elim not_fault (λ z q. omega arith)) p;
    }

pub demands : Demands
demands =
    record {
      planner = λ b w n d o given. record { first = demand1 given; second = demand2 given; third = λ able. demand3 able given };
      least_list = λ b. (answers b).exists;
      judge = λ b l n d. judge;
      to_edition2 = λ b w n d o given. (there_numbered given, to_edition2 given);
      to_edition1 = λ b w n d o given. (back_numbered given, to_edition1 given);
      late = λ b l r n d. late;
      fresh = λ b old n new. fresh;
      moved = λ b l r old n new. moved;
      cost = λ b l r n c x. cost;
      newer = λ a b n w. newer;
      newer_in_c = λ a b n d x y. newer_in_c;
      never15 = never_15;
    }
