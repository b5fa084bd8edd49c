-- Rewriting a sheet to the other edition: the sheet of that edition that says the same; and for every input the one number and
-- detail, and what the buffer holds after.
use Rattle.std.specs.Prelude.{ℕ, ◌≤◌, ◌<◌, ◌≡◌, ◌≢◌, Bool, true, false, ◌&&◌, List, ◌++◌, length, drop, eqb}
use Rattle.rules.specs.Count.{every, byte}
use Rattle.rules.specs.Sheet.{Sheet, sheet_of, gap_byte, fault_in}

-- what both editions say: facts, horizon, marks, codes, events, bounds
pub record SaysSame (s t : Sheet) : Type 0 where
  pub facts : s.facts ≡ t.facts
  pub horizon : s.horizon ≡ t.horizon
  pub marks : (f : ℕ) → f < s.facts → s.mark f ≡ t.mark f
  pub jobs : s.jobs ≡ t.jobs
  pub codes : (j : ℕ) → j < s.jobs → s.code j ≡ t.code j
  pub events : s.events ≡ t.events
  pub event_rows : (e : ℕ) → e < s.events → s.event e ≡ t.event e
  pub bounds : s.bounds ≡ t.bounds
  pub bound_rows : (i : ℕ) → i < s.bounds → s.bound i ≡ t.bound i

-- the bytes c are a well-formed sheet of edition n that says what the sheet b says
pub record Rewritten (n : ℕ) (b c : List ℕ) : Type 0 where
  pub bytes : (i : ℕ) → byte c i < 256
  pub formed : fault_in n c ≡ 0
  pub same : SaysSame (sheet_of b) (sheet_of c)

-- the edition 2 sheet of b, with gap byte 1, revision 0 and releases 0
pub record Edition2Of (b c : List ℕ) : Type 0 where
  pub rewritten : Rewritten 2 b c
  pub gap : gap_byte c ≡ 1
  pub revision : (sheet_of c).revision ≡ 0
  pub releases : (j : ℕ) → j < (sheet_of c).jobs → (sheet_of c).release j ≡ 0

-- the edition 1 sheet of b
abbrev pub Edition1Of : (b c : List ℕ) → Type 0
Edition1Of b c = Rewritten 1 b c

-- edition 1 can say what the edition 2 sheet b says: its gap byte is 1, releases and revision are 0
unfoldable pub goes_back : List ℕ → Bool
goes_back b = eqb (gap_byte b) 1 && eqb (sheet_of b).revision 0 && every (λ j. eqb ((sheet_of b).release j) 0) (sheet_of b).jobs

-- to edition 2, given sheet b and buffer w: number, detail, and the buffer after. It tests 10 to 14, 30.
pub data ToEdition2 (b w : List ℕ) : (number detail : ℕ) → List ℕ → Type 0 where
  bad_sheet : fault_in 1 b ≢ 0 → ToEdition2 b w (fault_in 1 b) 0 w
  short : (c : List ℕ) → fault_in 1 b ≡ 0 → Edition2Of b c → length w < length c → ToEdition2 b w 30 (length c) w
  written
      : (c : List ℕ)
      → fault_in 1 b ≡ 0
      → Edition2Of b c
      → length c ≤ length w
      → ToEdition2 b w 0 (length c) (c ++ drop (length c) w)

-- and back. It tests 10 to 14, 50, 30.
pub data ToEdition1 (b w : List ℕ) : (number detail : ℕ) → List ℕ → Type 0 where
  bad_sheet : fault_in 2 b ≢ 0 → ToEdition1 b w (fault_in 2 b) 0 w
  no_way_back : fault_in 2 b ≡ 0 → goes_back b ≡ false → ToEdition1 b w 50 0 w
  short
      : (c : List ℕ)
      → fault_in 2 b ≡ 0
      → goes_back b ≡ true
      → Edition1Of b c
      → length w < length c
      → ToEdition1 b w 30 (length c) w
  written
      : (c : List ℕ)
      → fault_in 2 b ≡ 0
      → goes_back b ≡ true
      → Edition1Of b c
      → length c ≤ length w
      → ToEdition1 b w 0 (length c) (c ++ drop (length c) w)
