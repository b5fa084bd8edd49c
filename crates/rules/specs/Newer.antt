-- Request N11, "which sheet counts": of two sheets of edition 2 the one with the higher revision supersedes the other.
use Rattle.std.specs.Prelude.{ℕ, ◌<◌, ◌≡◌, ◌≢◌, List, [], length}
use Rattle.rules.specs.Sheet.{sheet_of, fault_in}

-- ---- which of them counts

-- with a refusal it is none
pub data Which : Type 0 where
  first : Which
  second : Which
  none : Which

-- both are well-formed sheets of edition 2
pub record BothFormed (a b : List ℕ) : Type 0 where
  pub first : fault_in 2 a ≡ 0
  pub second : fault_in 2 b ≡ 0

abbrev pub revision : List ℕ → ℕ
revision b = (sheet_of b).revision

-- given the sheets a and b: number, and which counts. It tests 10 to 14 of the first sheet, 10 to 14 of the second, 56.
pub data Newer (a b : List ℕ) : (number : ℕ) → Which → Type 0 where
  bad_first : fault_in 2 a ≢ 0 → Newer a b (fault_in 2 a) Which.none
  bad_second : fault_in 2 a ≡ 0 → fault_in 2 b ≢ 0 → Newer a b (fault_in 2 b) Which.none
  other_bytes : BothFormed a b → revision a ≡ revision b → a ≢ b → Newer a b 56 Which.none
  same_bytes : BothFormed a b → revision a ≡ revision b → a ≡ b → Newer a b 0 Which.first
  first_higher : BothFormed a b → revision b < revision a → Newer a b 0 Which.first
  second_higher : BothFormed a b → revision a < revision b → Newer a b 0 Which.second

-- ---- what the caller gets back

-- the bytes of the part: all of the sheet that counts; with a refusal it is empty
unfoldable pub part_of : (a b : List ℕ) → Which → List ℕ
part_of a b Which.first = a
part_of a b Which.second = b
part_of a b Which.none = []

-- in C the part is told by which sheet it is, 0 or 1, and by its length
unfoldable pub which_in_c : Which → ℕ
which_in_c Which.first = 0
which_in_c Which.second = 1
which_in_c Which.none = 0

-- given the sheets a and b: number, detail, which sheet counts, and the length of the part. No bytes are written: the detail is always 0.
pub data NewerInC (a b : List ℕ) : (number detail which length : ℕ) → Type 0 where
  told : (n : ℕ) (w : Which) → Newer a b n w → NewerInC a b n 0 (which_in_c w) (length (part_of a b w))
