-- New to old to new gives the same bytes, for every sheet that goes back: since the gap byte that goes back is the one that rewriting writes.
use Rattle.std.specs.Prelude.{ℕ, ◌+◌, ◌*◌, ◌≤◌, ◌≡◌, true, List, ◌++◌, length, take, drop}
use Rattle.std.proofs.Common.{arith, subst}
use Rattle.std.proofs.Math.Seq.{take-append_seam}
use Rattle.rules.specs.Sheet.{sheet_of, fault_in}
use Rattle.rules.specs.Rewrite.{Edition2Of, Edition1Of, goes_back, ToEdition2, ToEdition1}
use Rattle.laws.specs.Limits.{AllBytes}
use Rattle.sheet_bytes.specs.SheetBytes.{sheet_bytes}
use Rattle.sheet_bytes.specs.OtherEdition.{plain_gap, back}
use Rattle.editions.specs.Unique.{says_flip, edition2_unique, to_edition2_unique, to_edition1_unique}
use Rattle.editions.specs.Answers.{its_edition1, edition1_shorter}
use Rattle.editions.specs.ThereAndBack.{SameSheet, same_back}

-- the sheet b goes to edition 1 into the buffer w and back to edition 2 into the buffer v: both answer 0, and at the end b is in v
pub record NewAgain (b w v : List ℕ) : Type 0 where
  pub between : List ℕ
  pub old : ToEdition1 b w 0 (length between) (between ++ drop (length between) w)
  pub new : ToEdition2 between v 0 (length b) (b ++ drop (length b) v)
  pub same : SameSheet b between

module _ {b : List ℕ} (small : AllBytes b) (fine : fault_in 2 b ≡ 0) (goes : goes_back b ≡ true) where
  -- an edition 2 sheet that goes back is the edition 2 sheet of its edition 1 sheet
  there_again : {c : List ℕ} → Edition1Of b c → Edition2Of c b
  there_again r =
      let p = back b goes in
      record {
        rewritten = record { bytes = small; formed = fine; same = says_flip r.same };
        gap = p.gap;
        revision = p.revision;
        releases = p.releases;
      }

  pub same_new : {c d : List ℕ} → Edition1Of b c → Edition2Of c d → d ≡ b
  same_new r e = edition2_unique e (there_again r)

  module _ {w v : List ℕ} (room : length b ≤ length w + 3 + 2 * (sheet_of b).jobs) (room' : length b ≤ length v) where
    pub new_again : NewAgain b w v
    new_again =
        let c = sheet_bytes 1 plain_gap (sheet_of b) in
        let r = its_edition1 b small fine goes in
        record {
          between = c;
          old = ToEdition1.written c fine goes r (omega (arith, room, edition1_shorter fine r));
          new = ToEdition2.written b r.formed (there_again r) room';
          same = same_back fine goes r;
        }

    -- the same of whatever is answered: the second way is given the bytes that the first has written
    pub new_old_new_bytes
        : {n d n' d' : ℕ} {w' v' : List ℕ}
        → ToEdition1 b w n d w'
        → ToEdition2 (take d w') v n' d' v'
        → (n ≡ 0) × (n' ≡ 0) × (take d' v' ≡ b) × SameSheet b (take d w')
    new_old_new_bytes {d = d} {n'} {d'} {w'} {v'} p q =
        let r = new_again in
        let c = r.between in
        let (n-is, d-is, w-is) = to_edition1_unique p r.old in
        let wrote : take d w' ≡ c = rw (d-is, w-is) (take-append_seam c (drop (length c) w)) in
        let (m-is, k-is, v-is) = to_edition2_unique (subst (λ (x : List ℕ). ToEdition2 x v n' d' v') wrote q) r.new in
        (n-is, m-is, rw (k-is, v-is) (take-append_seam b (drop (length b) v)), rw wrote r.same)
