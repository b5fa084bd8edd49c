-- Making the chains of the entries of each job, and walking one.
use Prim.Native.Nat.{ℕ, ◌+◌, ◌-◌, ◌≤◌, ◌<◌}
use native.Mathlib.Omega.{arith}
use native.Mathlib.Decide.{dec_lt, ℕ_discrete}
use native.Mathlib.Nat.{eq-or-lt_of_le}
use mathlib.Core.Path.{◌≡◌, refl, sym, ap, subst, ◌∙◌}
use Rattle.std.specs.Prelude.{Option, Some, None, SomeIff}
use borrow.Author.Tests.{eq-eqb, ne_eqb}
use mathlib.Core.Logic.{⊎_elim}
use mathlib.Core.List.{List}
use lib.ListN.{length, set as store, length-set}
use lib.Seq.{get_or-set_same, get_or-set_other}
use Rattle.plan_points.specs.Flat.{cell}
use Rattle.instances.specs.Chain.{link_at, before, behind, Previous, EntryLinked}

-- ---- making the chains

-- the first k rows are linked
pub record Chaining (group : List ℕ) (n : ℕ) (links lasts : ℕ) (k : ℕ) (link last : List (Option ℕ)) : Type 0 where
  pub within : k ≤ n
  pub link_room : length link ≡ links
  pub last_room : length last ≡ lasts
  pub linked : EntryLinked group k link
  pub latest : (g : ℕ) → Previous group g k (link_at last g)

module _ (group : List ℕ) (k : ℕ) where
  -- row k is now the last of its group
  previous_here : Previous group (cell group k) (k + 1) (Some k)
  previous_here =
      record {
        within = omega arith;
        is = λ r e. let q : r ≡ k = cc in ap (cell group) q;
        none = λ r l m. absurd (omega arith);
      }

  -- and of no other
  previous_other : {g : ℕ} {c : Option ℕ} → (g ≡ cell group k → ⊥) → Previous group g k c → Previous group g (k + 1) c
  previous_other {g} d p =
      record {
        within = omega (arith, p.within);
        is = p.is;
        none =
            λ r l m q.
            ⊎_elim
            (λ e. d (sym q ∙ ap (cell group) e))
            (λ o. p.none r l o q)
            (eq-or-lt_of_le (let o : r ≤ k = omega arith in o));
      }

pub chaining_step
    : {group : List ℕ} {link last : List (Option ℕ)} {n links lasts k g : ℕ}
    → Chaining group n links lasts k link last
    → k < n
    → n ≤ links
    → g < lasts
    → g ≡ cell group k
    → Chaining group n links lasts (k + 1) (store link k (link_at last g)) (store last g (Some k))
chaining_step {group} {link} {last} {n} {links} {lasts} {k} {g} c h room small e =
    record {
      within = omega arith;
      link_room = simp length-set c.link_room;
      last_room = simp length-set c.last_room;
      linked =
          record {
            before =
                λ r l.
                ⊎_elim
                (λ o. here r o)
                (λ o. rw (get_or-set_other link k r (link_at last g) None (omega arith)) (c.linked.before r o))
                (eq-or-lt_of_le (let o : r ≤ k = omega arith in o));
          };
      latest = λ f. last_of f (ℕ_discrete f g);
    }
  where
    here : (r : ℕ) → r ≡ k → Previous group (cell group r) r (link_at (store link k (link_at last g)) r)
    here r o =
        rw (o, get_or-set_same link k (link_at last g) None (omega (arith, c.link_room)))
        (rw (← e) (c.latest g))

    last_of : (f : ℕ) → Dec (f ≡ g) → Previous group f (k + 1) (link_at (store last g (Some k)) f)
    last_of f (yes o) =
        rw (o, get_or-set_same last g (Some k) None (omega (arith, c.last_room)), e) (previous_here group k)
    last_of f (no o) =
        rw (get_or-set_other last g f (Some k) None o) (previous_other group k (λ z. o (z ∙ sym e)) (c.latest f))

-- the row before a place, as a number is taken from it
pub before_next : (k : ℕ) → before (k + 1) ≡ Some k
before_next k = rw (ne_eqb (k + 1) 0 (λ q. omega (arith, q))) (ap Some (omega arith))

pub before_sub : (r : Option ℕ) (n : ℕ) → SomeIff r (1 ≤ n) (n - 1) → r ≡ before n
before_sub None n h = rw (eq-eqb n 0 (omega (arith, h))) refl
before_sub (Some x) n h = rw (ne_eqb n 0 (λ q. omega (arith, q, h.0))) (ap Some h.1)

-- ---- walking a chain

-- P holds of every row of group g behind c, which is one of them, or there is none
pub record Walked (group : List ℕ) (g n : ℕ) (P : ℕ → Type 0) (c : Option ℕ) : Type 0 where
  pub within : behind c ≤ n
  pub is : (r : ℕ) → c ≡ Some r → cell group r ≡ g
  pub done : (r : ℕ) → behind c ≤ r → r < n → cell group r ≡ g → P r

module _ {group : List ℕ} {g n : ℕ} {P : ℕ → Type 0} where
  pub walked_start : {c : Option ℕ} → Previous group g n c → Walked group g n P c
  walked_start p = record { within = p.within; is = p.is; done = λ r l m q. absurd (p.none r l m q) }

  -- the row that is looked at
  module _ {c : Option ℕ} (w : Walked group g n P c) (r : ℕ) (at : c ≡ Some r) where
    here : Walked group g n P (Some r)
    here = subst (Walked group g n P) at w

    pub walked_row : (r < n) × (cell group r ≡ g)
    walked_row = (omega (arith, here.within), w.is r at)

    module _ {link : List (Option ℕ)} (k : EntryLinked group n link) where
      -- the row that comes next
      pub walked_less : behind (link_at link r) < behind c
      walked_less = rw at (omega (arith, (k.before r walked_row.0).within))

      pub walked_step : P r → Walked group g n P (link_at link r)
      walked_step new =
          let p = k.before r walked_row.0 in
          record {
            within = omega (arith, p.within, walked_row.0);
            is = λ q z. p.is q z ∙ walked_row.1;
            done = λ q l m y. seen q l m y (dec_lt q r) (dec_lt r q);
          }
        where
          seen : (q : ℕ) → behind (link_at link r) ≤ q → q < n → cell group q ≡ g → Dec (q < r) → Dec (r < q) → P q
          seen q l m y (yes a) d = absurd ((k.before r walked_row.0).none q l a (y ∙ sym walked_row.1))
          seen q l m y (no a) (yes b) = here.done q (omega arith) m y
          seen q l m y (no a) (no b) = let z : r ≡ q = omega arith in rw z at new

  pub walked_end : {c : Option ℕ} → Walked group g n P c → c ≡ None → (r : ℕ) → r < n → cell group r ≡ g → P r
  walked_end w e r l q = (subst (Walked group g n P) e w).done r (omega arith) l q
