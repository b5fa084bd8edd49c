-- Rewriting loses nothing. Old to new to old gives the same bytes; and on both ways the sheets have the same plans and get the same
-- answers, of the planner and of the judge.
use Rattle.std.specs.Prelude.{ℕ, ◌+◌, ◌*◌, ◌≤◌, ◌≡◌, ◌↔◌, true, List, ◌++◌, length, take, drop}
use Rattle.std.proofs.Common.{arith, sym, ◌∙◌, subst, eq-eqb}
use Rattle.std.proofs.Math.Seq.{take-append_seam}
use Rattle.rules.specs.Sheet.{Sheet, sheet_of, sheet_fault, fault_in}
use Rattle.rules.specs.RunList.{Plan}
use Rattle.rules.specs.Plan.{IsPlan}
use Rattle.rules.specs.Rewrite.{SaysSame, Edition2Of, Edition1Of, goes_back, ToEdition2, ToEdition1}
use Rattle.laws.specs.Bools.{and_put}
use Rattle.laws.specs.Places.{every_put}
use Rattle.laws.specs.Limits.{AllBytes}
use Rattle.laws.specs.Faults.{well_formed_lem}
use Rattle.agree.specs.Agree.{Agree, agree_of}
use Rattle.agree.specs.Theorem.{SameReplies, same_answers, same_replies}
use Rattle.sheet_bytes.specs.SheetBytes.{sheet_bytes}
use Rattle.sheet_bytes.specs.Faultless.{faultless}
use Rattle.sheet_bytes.specs.OtherEdition.{plain_gap, Plain, plain_1, plain_2}
use Rattle.editions.specs.Unique.{says_both, says_flip, edition1_unique, to_edition2_unique, to_edition1_unique}
use Rattle.editions.specs.Answers.{its_edition2, its_edition1, edition2_longer, edition1_shorter}

-- ---- the same plans and answers

-- every plan of the one is a plan of the other; planner and judge give the same number, detail and bytes for every buffer and list
pub record SameSheet (b c : List ℕ) : Type 0 where
  pub plans : (p : Plan) → IsPlan (sheet_of b) p ↔ IsPlan (sheet_of c) p
  pub answers : SameReplies b c

same_sheet : {b c : List ℕ} → sheet_fault b ≡ 0 → sheet_fault c ≡ 0 → Agree (sheet_of b) (sheet_of c) → SameSheet b c
same_sheet {b} {c} p q a = record { plans = (same_answers a (well_formed_lem b p)).plans; answers = same_replies b c p q a }

-- the edition 2 sheet that is made goes back
goes_back_lem : {b c : List ℕ} → Edition2Of b c → goes_back c ≡ true
unfolding goes_back
goes_back_lem {b} {c} e =
    and_put (and_put (eq-eqb _ _ e.gap) (eq-eqb _ _ e.revision))
    (every_put _ (sheet_of c).jobs (λ j l. eq-eqb _ _ (e.releases j l)))

plain_agree : {s t : Sheet} → SaysSame s t → Plain s → Plain t → Agree s t
plain_agree same p q =
    agree_of same (p.gap ∙ sym q.gap) (λ j l. p.releases j l ∙ sym (q.releases j (omega (arith, same.jobs))))

module _ {b c : List ℕ} where
  pub agree_there : fault_in 1 b ≡ 0 → Edition2Of b c → Agree (sheet_of b) (sheet_of c)
  agree_there fine e =
      let r = e.rewritten in
      plain_agree r.same (plain_1 b (faultless 1 b fine).contents.is_edition)
      (plain_2 c (faultless 2 c r.formed).contents.is_edition (goes_back_lem e))

  pub agree_back : fault_in 2 b ≡ 0 → goes_back b ≡ true → Edition1Of b c → Agree (sheet_of b) (sheet_of c)
  agree_back fine goes r =
      plain_agree r.same (plain_2 b (faultless 2 b fine).contents.is_edition goes)
      (plain_1 c (faultless 1 c r.formed).contents.is_edition)

  pub same_there : fault_in 1 b ≡ 0 → Edition2Of b c → SameSheet b c
  same_there fine e = same_sheet (faultless 1 b fine).fault (faultless 2 c e.rewritten.formed).fault (agree_there fine e)

  pub same_back : fault_in 2 b ≡ 0 → goes_back b ≡ true → Edition1Of b c → SameSheet b c
  same_back fine goes r = same_sheet (faultless 2 b fine).fault (faultless 1 c r.formed).fault (agree_back fine goes r)

-- ---- old to new to old

-- an edition 1 sheet is the edition 1 sheet of its edition 2 sheet
back_again : {b c : List ℕ} → AllBytes b → fault_in 1 b ≡ 0 → Edition2Of b c → Edition1Of c b
back_again small fine e = record { bytes = small; formed = fine; same = says_flip e.rewritten.same }

pub same_old : {b c d : List ℕ} → AllBytes b → fault_in 1 b ≡ 0 → Edition2Of b c → Edition1Of c d → (goes_back c ≡ true) × (d ≡ b)
same_old small fine e r = (goes_back_lem e, edition1_unique r (back_again small fine e))

-- the sheet b goes to edition 2 into the buffer w and back into the buffer v: both answer 0, and at the end b is in v
pub record ThereAndBack (b w v : List ℕ) : Type 0 where
  pub between : List ℕ
  pub there : ToEdition2 b w 0 (length between) (between ++ drop (length between) w)
  pub back : ToEdition1 between v 0 (length b) (b ++ drop (length b) v)
  pub same : SameSheet b between

module _ {b w v : List ℕ} (small : AllBytes b) (fine : fault_in 1 b ≡ 0) where
  pub there_and_back : length b + 3 + 2 * (sheet_of b).jobs ≤ length w → length b ≤ length v → ThereAndBack b w v
  there_and_back room room' =
      let c = sheet_bytes 2 plain_gap (sheet_of b) in
      let e = its_edition2 b small fine in
      record {
        between = c;
        there = ToEdition2.written c fine e (omega (arith, edition2_longer fine e));
        back = ToEdition1.written b e.rewritten.formed (goes_back_lem e) (back_again small fine e) room';
        same = same_there fine e;
      }

  -- the same of whatever is answered: the second way is given the bytes that the first has written
  pub old_new_old
      : {n d n' d' : ℕ} {w' v' : List ℕ}
      → length b + 3 + 2 * (sheet_of b).jobs ≤ length w
      → length b ≤ length v
      → ToEdition2 b w n d w'
      → ToEdition1 (take d w') v n' d' v'
      → (n ≡ 0) × (n' ≡ 0) × (take d' v' ≡ b) × SameSheet b (take d w')
  old_new_old {d = d} {n'} {d'} {w'} {v'} room room' p q =
      let r = there_and_back room room' in
      let c = r.between in
      let (n-is, d-is, w-is) = to_edition2_unique p r.there in
      let wrote : take d w' ≡ c = rw (d-is, w-is) (take-append_seam c (drop (length c) w)) in
      let (m-is, k-is, v-is) = to_edition1_unique (subst (λ (x : List ℕ). ToEdition1 x v n' d' v') wrote q) r.back in
      (n-is, m-is, rw (k-is, v-is) (take-append_seam b (drop (length b) v)), rw wrote r.same)

-- ---- new to old to new

-- b, its edition 1 sheet c, and the edition 2 sheet d made of that one
pub record NewOldNew (b c d : List ℕ) : Type 0 where
  pub old : SameSheet b c
  pub again : SameSheet c d
  pub new : SameSheet b d

pub new_old_new : {b c d : List ℕ} → fault_in 2 b ≡ 0 → goes_back b ≡ true → Edition1Of b c → Edition2Of c d → NewOldNew b c d
new_old_new {b} {c} {d} fine goes r e =
    let a = faultless 2 b fine in
    let f = faultless 2 d e.rewritten.formed in
    let same = says_both (says_flip r.same) e.rewritten.same in
    record {
      old = same_back fine goes r;
      again = same_there r.formed e;
      new = same_sheet a.fault f.fault
          (plain_agree same (plain_2 b a.contents.is_edition goes) (plain_2 d f.contents.is_edition (goes_back_lem e)));
    }

-- the sheet b goes back to edition 1 into the buffer w and to edition 2 again into the buffer v: both answer 0, and the last is as long as b
pub record BackAndThere (b w v : List ℕ) : Type 0 where
  pub between : List ℕ
  pub last : List ℕ
  pub back : ToEdition1 b w 0 (length between) (between ++ drop (length between) w)
  pub there : ToEdition2 between v 0 (length last) (last ++ drop (length last) v)
  pub long : length last ≡ length b
  pub same : NewOldNew b between last

pub back_and_there
    : {b w v : List ℕ}
    → AllBytes b
    → fault_in 2 b ≡ 0
    → goes_back b ≡ true
    → length b ≤ length w + 3 + 2 * (sheet_of b).jobs
    → length b ≤ length v
    → BackAndThere b w v
back_and_there {b} {w} {v} small fine goes room room' =
    let c = sheet_bytes 1 plain_gap (sheet_of b) in
    let r = its_edition1 b small fine goes in
    let d = sheet_bytes 2 plain_gap (sheet_of c) in
    let e = its_edition2 c r.bytes r.formed in
    let long : length d ≡ length b = omega (arith, edition1_shorter fine r, edition2_longer r.formed e, r.same.jobs) in
    record {
      between = c;
      last = d;
      back = ToEdition1.written c fine goes r (omega (arith, edition1_shorter fine r));
      there = ToEdition2.written d r.formed e (omega (arith, long));
      long = long;
      same = new_old_new fine goes r e;
    }
