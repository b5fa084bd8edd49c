-- The law: sheets that agree below their counts have the same plans and the same answers, and so have bytes that say such sheets.
use Rattle.std.specs.Prelude.{ℕ, ◌≡◌, ◌↔◌, true, List}
use Rattle.rules.specs.Sheet.{Sheet, sheet_of, sheet_fault, well_formed}
use Rattle.rules.specs.RunList.{Plan, list_ok, plan_of}
use Rattle.rules.specs.Plan.{IsPlan}
use Rattle.rules.specs.Wanted.{LeastList}
use Rattle.rules.specs.Answer.{Judged, Planned}
use Rattle.laws.specs.Planned.{PlannedFor}
use Rattle.agree.specs.Agree.{Agree, agree_sym}
use Rattle.agree.specs.Formed.{Alike, alike, flip}
use Rattle.agree.specs.Plan.{plan_agree}
use Rattle.agree.specs.RunList.{list_ok_agree}
use Rattle.agree.specs.Least.{least_list}
use Rattle.agree.specs.Answer.{list_agree, planned_for_agree, planned_agree, judged_agree}

pub record SameAnswers (s t : Sheet) : Type 0 where
  pub plans : (p : Plan) → IsPlan s p ↔ IsPlan t p
  pub lists : (l : List ℕ) → list_ok s l ≡ list_ok t l
  pub judged : (l : List ℕ) → IsPlan s (plan_of s l) ↔ IsPlan t (plan_of t l)
  pub least : (l : List ℕ) → LeastList s l ↔ LeastList t l
  pub planned : (w : List ℕ) (n d : ℕ) (w' : List ℕ) → PlannedFor s w n d w' ↔ PlannedFor t w n d w'

pub same_answers : {s t : Sheet} → Agree s t → well_formed s ≡ true → SameAnswers s t
same_answers {s} {t} a ok =
    record {
      plans = λ p. (plan_agree h, plan_agree (flip h));
      lists = list_ok_agree a;
      judged = λ l. (list_agree h l, list_agree (flip h) l);
      least = λ l. (least_list h, least_list (flip h));
      planned = λ w n d w'. (planned_for_agree h, planned_for_agree (flip h));
    }
  where
    h : Alike s t
    h = alike a ok

-- two sheets of bytes get the same answers
pub record SameReplies (b c : List ℕ) : Type 0 where
  pub judged : (l : List ℕ) (n d : ℕ) → Judged b l n d ↔ Judged c l n d
  pub planned : (w : List ℕ) (n d : ℕ) (w' : List ℕ) → Planned b w n d w' ↔ Planned c w n d w'

pub same_replies : (b c : List ℕ) → sheet_fault b ≡ 0 → sheet_fault c ≡ 0 → Agree (sheet_of b) (sheet_of c) → SameReplies b c
same_replies b c p q a =
    record {
      judged = λ l n d. (judged_agree p q a, judged_agree q p (agree_sym a));
      planned = λ w n d w'. (planned_agree p q a, planned_agree q p (agree_sym a));
    }
