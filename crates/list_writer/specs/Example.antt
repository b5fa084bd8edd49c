-- The list of example P1, computed: the 24 bytes of document 01.
use Rattle.std.specs.Prelude.{ℕ, ◌≡◌, refl, true, [], ◌∷◌, get_or}
use Rattle.rules.specs.Count.{count, sum}
use Rattle.rules.specs.Sheet.{Sheet, Event, begins, ends, sets}
use Rattle.rules.specs.RunList.{events_of}
use Rattle.byte_writer.specs.Bytes.{pair, when, joined}
use Rattle.list_writer.specs.ListBytes.{times_to, body_at, head_bytes, entry_bytes, tick_bytes, body_bytes, list_bytes}

event : (job kind fact : ℕ) → Event
event j k f = record { job = j; kind = k; fact = f }

-- P1 but for its bounds, which the list does not show: job 10 needs 0 and sets 1, job 20 needs 1 and sets 2
sheet : Sheet
sheet =
    record {
      facts = 3;
      horizon = 100;
      gap = 1;
      revision = 0;
      mark = λ f. get_or (1 ∷ 0 ∷ 2 ∷ []) f 0;
      jobs = 2;
      code = λ j. get_or (10 ∷ 20 ∷ []) j 0;
      release = λ j. 0;
      events = 6;
      event =
          λ e.
          get_or (event 0 begins 0 ∷ event 0 ends 0 ∷ event 0 sets 1 ∷ event 1 begins 1 ∷ event 1 ends 1 ∷ event 1 sets 2 ∷ []) e
          (event 2 0 0);
      bounds = 0;
      bound = λ i. record { later = 0; earlier = 0; low = 0; high = 0 };
    }

example_p1
    : list_bytes sheet (λ j. true) (λ e. get_or (0 ∷ 5 ∷ 5 ∷ 6 ∷ 9 ∷ 9 ∷ []) e 0)
    ≡ 1 ∷ 0 ∷ 2 ∷ 0 ∷ 10 ∷ 0 ∷ 12 ∷ 0 ∷ 20 ∷ 0 ∷ 18 ∷ 0
    ∷ 0 ∷ 0 ∷ 5 ∷ 0 ∷ 5 ∷ 0 ∷ 6 ∷ 0 ∷ 9 ∷ 0 ∷ 9 ∷ 0 ∷ []
unfolding sheet event list_bytes head_bytes joined entry_bytes body_bytes tick_bytes when pair body_at times_to sum count events_of
example_p1 = refl
