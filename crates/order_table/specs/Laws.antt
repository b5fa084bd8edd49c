-- What the orders ask follows; and a new table has no row.
use Rattle.std.specs.Prelude.{ℕ, ◌+◌, ◌*◌, ◌≤◌, ◌<◌, ◌≡◌, Bool, List, length, get_or, replicate}
use Rattle.std.proofs.Common.{arith, subst}
use Rattle.std.proofs.Math.Decide.{dec_lt}
use Rattle.std.proofs.lemmas.List.{length-replicate, get_or-replicate}
use Rattle.std.proofs.Math.ListN.{get_or-eq_default}
use Rattle.sheet.specs.WellFormed.{said_by}
use Rattle.sheet.specs.declared.formed.WellFormed.{WellFormed}
use Rattle.laws.specs.Limits.{most_events}
use Rattle.own_times.specs.Wide.{Filled}
use Rattle.own_times.specs.Laws.{stride_few, table_room, Filled-none}
use Rattle.order_guard.specs.Pair.{Ground}
use Rattle.order_table.specs.View.{OrdersAsk, Strided, large}

-- a new table has no mark
blank : (n x : ℕ) → ◌≡◌ {A = ℕ} (get_or (replicate n 0) x 0) 0
blank n x = go (dec_lt x n)
  where
    go : Dec (x < n) → ◌≡◌ {A = ℕ} (get_or (replicate n 0) x 0) 0
    go (yes k) = get_or-replicate {A = ℕ} n x 0 0 k
    go (no k) = get_or-eq_default (replicate n 0) 0 {n = x} (omega (arith, length-replicate {A = ℕ} n 0))

module _ {sheet : WellFormed} {c o : List (List ℕ)} {jobs : List Bool} (w : OrdersAsk sheet c o jobs) {m : ℕ} where
  few_apart : {room : ℕ} → Strided sheet c m room → m ≤ most_events
  few_apart t = omega (arith, sheet.few.events, stride_few w.rules.by_job t.stride)

  pub ground : {room : ℕ} → Strided sheet c m room → Ground sheet c o m
  ground t =
      record {
        table =
            record {
              rules = w.rules;
              times = record { least = w.least; long = w.long; spans = t.stride.spans };
              jobs = w.index.jobs;
            };
        index = w.index;
        few = few_apart t;
      }

  pub empty_table : (room : ℕ) → Strided sheet c m room → Filled (said_by sheet) sheet.view.events m (replicate room 0)
  empty_table room t =
      let e = sheet.counted.events in
      let n = length-replicate {A = ℕ} room 0 in
      Filled-none
      (omega (arith, e))
      (subst (λ (k : ℕ). sheet.view.events + m * k + k ≤ length {A = ℕ} (replicate room 0)) e (omega (arith, t.fits, n)))
      (λ x l. blank room x)

  pub room_most
      : Strided sheet c m (sheet.view.events + m * sheet.view.events + sheet.view.events)
      → sheet.view.events + m * sheet.view.events + sheet.view.events ≤ large
  room_most t = table_room m sheet.view.events (few_apart t) (omega (arith, sheet.few.events, sheet.counted.events))
