-- What a well-formed sheet of edition 2 has: 26 bytes or more, and its revision in two of them.
use Rattle.std.specs.Prelude.{ℕ, ◌+◌, ◌*◌, ◌≤◌, ◌≡◌, List, length}
use borrow.Author.Tests.{leb-true}
use Rattle.rules.specs.Count.{byte, two}
use Rattle.rules.specs.Sheet.{sheet_of, start_of, revision_at, added, contents_ok, fault_in}
use Rattle.rules.specs.Newer.{revision}
use Rattle.laws.specs.Bools.{and_get}
use Rattle.laws.specs.Faults.{all_passed, in_edition}

module _ (b : List ℕ) (h : fault_in 2 b ≡ 0) where
  pub formed_length : 26 ≤ length b
  unfolding contents_ok
  formed_length =
      let ok = (all_passed b (in_edition 2 b h).1).contents in
      leb-true _ _ (and_get _ _ (and_get _ _ (and_get _ _ (and_get _ _ ok).0).0).0).0

  -- two bytes at 30, the low byte first
  pub formed_revision : revision b ≡ byte b 30 + 256 * byte b 31
  unfolding sheet_of added revision_at start_of two
  formed_revision = rw (in_edition 2 b h).0
