-- Both ends of a rule in rows are variables of their range.
use Rattle.std.specs.Prelude.{ℕ, ◌<◌, List}
use Rattle.std.proofs.Common.{arith}
use Rattle.kernel_least.specs.System.{Closed}
use Rattle.kernel_least.specs.Rows.{Shaped, rows_of}

pub rows_closed
    : (first to weight : List ℕ) (lo hi ceiling : ℕ)
    → (lo < hi → Shaped first to weight lo hi)
    → Closed (rows_of first to weight lo hi ceiling)
rows_closed first to weight lo hi ceiling shaped a b w r =
    let o = r.stands.of in
    let p = (shaped (omega (arith, o.from, o.below))).inside a r.place r.stands in
    (o, rw r.target at p)
