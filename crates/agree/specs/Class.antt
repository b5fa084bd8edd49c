-- Alike sheets break the same class rules at the same facts.
use Rattle.std.specs.Prelude.{ℕ, ◌≡◌, Bool}
use Rattle.std.proofs.Common.{sym, ◌∙◌, inl, inr, ⊎_elim}
use Rattle.rules.specs.Sheet.{Sheet, initial, sets, clears}
use Rattle.rules.specs.Wanted.{WantedFact}
use Rattle.rules.specs.Class.{ByWanted, Unordered, TwoSetters, WantedUnordered, UnwantedUnordered, Inside}
use Rattle.laws.specs.Events.{wanted_fact_in}
use Rattle.agree.specs.Agree.{initial_agree, is_agree}
use Rattle.laws.specs.Below.{none_below}
use Rattle.agree.specs.Formed.{Alike, flip}
use Rattle.agree.specs.Wanted.{present_agree, wanted_fact_lem, wanted_job_lem}
use Rattle.agree.specs.Order.{cleared_last, cleared_first}

module _ {s t : Sheet} (h : Alike s t) where
  by_wanted : (k f : ℕ) → ByWanted s k f → ByWanted t k f
  unfolding ByWanted
  by_wanted k f (e, j, is, w) = (e, j, is_agree h.agree is, wanted_job_lem h w)

  unordered : (f : ℕ) → Unordered s f → Unordered t f
  unfolding Unordered
  unordered f u = (λ c. u.0 (cleared_last (flip h) c), λ c. u.1 (cleared_first (flip h) f c))

  mark_of : {f : ℕ} {r : Bool} → WantedFact s f → initial s f ≡ r → initial t f ≡ r
  mark_of {f} w q = sym (initial_agree h.agree f (wanted_fact_in h.one w)) ∙ q

  pub two_setters : {f : ℕ} → TwoSetters s f → TwoSetters t f
  two_setters r =
      let (e, i, d, j, p, q, differ) = r.setters in
      record {
        is_wanted = wanted_fact_lem h r.is_wanted;
        not_initial = mark_of r.is_wanted r.not_initial;
        setters = (e, i, d, j, present_agree h p, present_agree h q, differ);
      }

  pub wanted_unordered : {f : ℕ} → WantedUnordered s f → WantedUnordered t f
  wanted_unordered {f} r =
      record {
        is_wanted = wanted_fact_lem h r.is_wanted;
        unshown =
            ⊎_elim (λ u. inl (unordered f u))
            (λ u. inr (mark_of r.is_wanted u.0, λ c. u.1 (cleared_last (flip h) c))) r.unshown;
      }

  pub unwanted_unordered : {f : ℕ} → UnwantedUnordered s f → UnwantedUnordered t f
  unwanted_unordered {f} r =
      record {
        not_wanted = λ w. r.not_wanted (wanted_fact_lem (flip h) w);
        is_set = by_wanted sets f r.is_set;
        is_cleared = by_wanted clears f r.is_cleared;
        unshown = unordered f r.unshown;
      }

module _ {s t : Sheet} (h : Alike s t) where
  pub inside_agree : Inside s → Inside t
  inside_agree inside =
      record {
        one_setter = none_below h.agree.facts (λ f l r. two_setters (flip h) r) inside.one_setter;
        ordered = none_below h.agree.facts (λ f l r. wanted_unordered (flip h) r) inside.ordered;
        unwanted_ordered = none_below h.agree.facts (λ f l r. unwanted_unordered (flip h) r) inside.unwanted_ordered;
      }
