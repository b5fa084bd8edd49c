-- The bytes of the other edition that say what a well-formed sheet says: there with gap byte 1, revision 0 and releases 0, and back.
use Rattle.std.specs.Prelude.{ℕ, ◌+◌, ◌<◌, ◌≡◌, refl, ◌⊎◌, true, ◌&&◌, List}
use Rattle.std.proofs.Common.{arith, sym, ◌∙◌, inl, inr, ⊎_elim}
use Rattle.std.proofs.Math.Dec.{eqb}
use borrow.Author.Tests.{eqb-true}
use Rattle.rules.specs.Count.{two}
use Rattle.rules.specs.Sheet.{Sheet, sheet_of, edition, gap_ticks, added, gap_byte, job_at, well_formed}
use Rattle.rules.specs.Rewrite.{Rewritten, Edition2Of, Edition1Of, goes_back}
use Rattle.laws.specs.Bools.{decided, and_get}
use Rattle.laws.specs.Places.{every_get}
use Rattle.laws.specs.Limits.{AllBytes}
use Rattle.byte_writer.specs.Bytes.{pair_limit}
use Rattle.sheet_bytes.specs.SheetBytes.{sheet_bytes}
use Rattle.sheet_bytes.specs.ReadsBack.{Sayable, SaidBy, reads_back}

-- the gap byte that says what edition 1 says: an edition 2 sheet made of an edition 1 sheet has it
abbrev pub plain_gap : ℕ
plain_gap = 1

-- what edition 2 adds, where it says no more than edition 1: a gap of one tick, no revision, no release
pub record Plain (s : Sheet) : Type 0 where
  pub gap : s.gap ≡ 1
  pub revision : s.revision ≡ 0
  pub releases : (j : ℕ) → j < s.jobs → s.release j ≡ 0

-- the rule of 50, one by one: what an edition 2 sheet that goes back has
pub record Back (b : List ℕ) : Type 0 where
  pub gap : gap_byte b ≡ plain_gap
  pub revision : (sheet_of b).revision ≡ 0
  pub releases : (j : ℕ) → j < (sheet_of b).jobs → (sheet_of b).release j ≡ 0

two_small : (b : List ℕ) → AllBytes b → (i : ℕ) → two b i < pair_limit
unfolding two
two_small b small i = omega (arith, small i, small (i + 1))

-- in both editions the plain gap byte stands for one tick
plain_tick : (n : ℕ) → gap_ticks n plain_gap ≡ 1
unfolding gap_ticks
plain_tick n = ⊎_elim (λ q. rw q) (λ q. rw q) (decided (eqb n 2))

module _ (b : List ℕ) where
  code_small : AllBytes b → (j : ℕ) → (sheet_of b).code j < pair_limit
  unfolding sheet_of
  code_small small j = two_small b small (job_at b j)

  -- every edition 1 sheet is plain
  pub plain_1 : edition b ≡ 1 → Plain (sheet_of b)
  unfolding sheet_of gap_ticks added
  plain_1 e = record { gap = rw e; revision = rw e; releases = λ j l. rw e }

  plain_gap_lem : gap_byte b ≡ plain_gap → (sheet_of b).gap ≡ 1
  unfolding sheet_of
  plain_gap_lem q = rw q (plain_tick (edition b))

  pub back : goes_back b ≡ true → Back b
  unfolding goes_back
  back h =
      let p2 = and_get (eqb (gap_byte b) 1 && eqb (sheet_of b).revision 0) _ h in
      let p1 = and_get (eqb (gap_byte b) 1) _ p2.0 in
      record {
        gap = eqb-true _ _ p1.0;
        revision = eqb-true _ _ p1.1;
        releases = λ j l. eqb-true _ _ (every_get (λ j. eqb ((sheet_of b).release j) 0) (sheet_of b).jobs p2.1 j l);
      }

  -- and so is an edition 2 sheet that goes back
  pub plain_2 : edition b ≡ 2 → goes_back b ≡ true → Plain (sheet_of b)
  plain_2 e h = let p = back h in record { gap = plain_gap_lem p.gap; revision = p.revision; releases = p.releases }

plain_added : (n x : ℕ) → x ≡ 0 → x ≡ added n x
unfolding added
plain_added n x h = ⊎_elim (λ q. rw q) (λ q. rw q h) (decided (eqb n 2))

-- a plain sheet can be said in both editions
pub plain_sayable : (n : ℕ) (b : List ℕ) → (n ≡ 1) ⊎ (n ≡ 2) → AllBytes b → Plain (sheet_of b) → Sayable n plain_gap (sheet_of b)
plain_sayable n b known small p =
    record {
      edition = known;
      gap = p.gap ∙ sym (plain_tick n);
      revision = plain_added n (sheet_of b).revision p.revision;
      releases = λ j l. plain_added n ((sheet_of b).release j) (p.releases j l);
      small_revision = omega (arith, p.revision);
      small_codes = λ j l. code_small b small j;
      small_releases = λ j l. omega (arith, p.releases j l);
    }

rewritten : {n g : ℕ} {b c : List ℕ} → SaidBy n g (sheet_of b) c → Rewritten n b c
rewritten q = record { bytes = q.bytes; formed = q.formed; same = q.same }

pub edition2_of
    : (b : List ℕ)
    → AllBytes b
    → well_formed (sheet_of b) ≡ true
    → edition b ≡ 1
    → Edition2Of b (sheet_bytes 2 plain_gap (sheet_of b))
edition2_of b small ok e =
    let p = plain_1 b e in
    let q = reads_back ok (plain_sayable 2 b (inr refl) small p) in
    record {
      rewritten = rewritten q;
      gap = q.gap_byte refl;
      revision = sym q.revision ∙ p.revision;
      releases = λ j l. sym (q.releases j (omega (arith, q.same.jobs))) ∙ p.releases j (omega (arith, q.same.jobs));
    }

pub edition1_of
    : (b : List ℕ)
    → AllBytes b
    → well_formed (sheet_of b) ≡ true
    → edition b ≡ 2
    → goes_back b ≡ true
    → Edition1Of b (sheet_bytes 1 plain_gap (sheet_of b))
edition1_of b small ok e back = rewritten (reads_back ok (plain_sayable 1 b (inl refl) small (plain_2 b e back)))
