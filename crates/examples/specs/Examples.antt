-- P1 to P10 of document 01, together: sheet bytes in; number, detail and the buffer after out; P10 for the judge.
-- The answers leave no choice (the crate theory, Theorem.answers), so each of these is the one answer.
use Rattle.std.specs.Prelude.{ℕ, ◌≤◌, ◌≡◌, List, [], ◌∷◌, ◌++◌, length, drop}
use Rattle.rules.specs.Answer.{Planned, Judged}
use Rattle.examples.specs.Sheets.{p1_sheet, p1_list, p2_sheet, p3_sheet, p5_sheet, p5_list, p6_sheet, p6_list, p7_sheet, p8_sheet, p9_sheet, p10_list}

pub record Examples : Type 0 where
  -- the sizes that document 01 names, and the bytes that it prints
  pub p1_sheet_size : length p1_sheet ≡ 78
  pub p1_list_size : length p1_list ≡ 24
  pub p1_bytes
      : p1_list
      ≡ 0x01 ∷ 0x00 ∷ 0x02 ∷ 0x00 ∷ 0x0A ∷ 0x00 ∷ 0x0C ∷ 0x00 ∷ 0x14 ∷ 0x00 ∷ 0x12 ∷ 0x00
      ∷ 0x00 ∷ 0x00 ∷ 0x05 ∷ 0x00 ∷ 0x05 ∷ 0x00 ∷ 0x06 ∷ 0x00 ∷ 0x09 ∷ 0x00 ∷ 0x09 ∷ 0x00 ∷ []
  pub p5_bytes : p5_list ≡ 0x01 ∷ 0x00 ∷ 0x00 ∷ 0x00 ∷ []
  -- the answers
  pub p1 : (w : List ℕ) → 24 ≤ length w → Planned p1_sheet w 0 24 (p1_list ++ drop 24 w)
  pub p2 : (w : List ℕ) → 24 ≤ length w → Planned p2_sheet w 0 24 (p1_list ++ drop 24 w)
  pub p3 : (w : List ℕ) → Planned p3_sheet w 1 0 w
  pub p4 : (w : List ℕ) → length w ≡ 23 → Planned p1_sheet w 30 24 w
  pub p5 : (w : List ℕ) → 4 ≤ length w → Planned p5_sheet w 0 4 (p5_list ++ drop 4 w)
  pub p6 : (w : List ℕ) → 28 ≤ length w → Planned p6_sheet w 0 28 (p6_list ++ drop 28 w)
  pub p7 : (w : List ℕ) → Planned p7_sheet w 1 0 w
  pub p8 : (w : List ℕ) → Planned p8_sheet w 21 1 w
  pub p9 : (w : List ℕ) → Planned p9_sheet w 21 0 w
  pub p10 : Judged p1_sheet p10_list 41 0
  -- the judge accepts what the planner writes
  pub p1_judged : Judged p1_sheet p1_list 0 0
