-- Writing rows: one entry more, one part after another, one row more.
use Prim.Native.Nat.{ℕ, ◌+◌, ◌-◌, ◌≤◌, ◌<◌}
use native.Mathlib.Omega.{arith}
use native.Mathlib.Decide.{ℕ_discrete, dec_lt}
use mathlib.Core.Path.{◌≡◌, refl, sym, ap, subst, subst₂, ◌∙◌}
use mathlib.Core.Logic.{◌≢◌, ◌⊎◌, inl, inr, ⊎_elim, dite}
use mathlib.Core.Bool.{Bool, true}
use mathlib.Core.List.{List}
use lib.ListN.{length, get_or, set, length-set}
use lib.Seq.{get_or-set_same, get_or-set_other}
use Rattle.rules.specs.Sheet.{Sheet}
use Rattle.rules.specs.Plan.{distance_by}
use Rattle.index.specs.View.{events_in}
use Rattle.numbers.specs.Size.{word}
use Rattle.list_rules.specs.declared.Link.{Link}
use Rattle.list_rules.specs.View.{Links, Entry, Extended, RoomFor, LinkSpot, LinkGroup, On, group_most, link_from, link_end}

-- an entry up to p is one up to a later place
entry_more : {to weight : List ℕ} {lo p q b w : ℕ} → p ≤ q → Entry to weight lo p b w → Entry to weight lo q b w
entry_more l e = record { place = e.place; from = e.from; below = omega (arith, e.below); target = e.target; weighs = e.weighs }

entry_here
    : (to weight : List ℕ) (lo p : ℕ) → lo ≤ p → Entry to weight lo (p + 1) (get_or to p 0) (get_or weight p 0)
entry_here to weight lo p l = record { place = p; from = l; below = omega arith; target = refl; weighs = refl }

entry_last
    : (to weight : List ℕ) (lo p b w : ℕ)
    → Entry to weight lo (p + 1) b w
    → Entry to weight lo p b w ⊎ ((b ≡ get_or to p 0) × (w ≡ get_or weight p 0))
entry_last to weight lo p b w e =
    dite (ℕ_discrete e.place p)
    (λ q. inr (sym e.target ∙ ap (λ i. get_or to i 0) q, sym e.weighs ∙ ap (λ i. get_or weight i 0) q))
    (λ d.
    inl
    (record {
      place = e.place;
      from = e.from;
      below = omega (arith, e.below);
      target = e.target;
      weighs = e.weighs;
    }))

-- ---- rows that grow

-- nothing is written
pub grown_none
    : {most : ℕ} {R : Links} (to weight : List ℕ) (n : ℕ)
    → ((b w : ℕ) → R b w → ⊥)
    → Extended most R to weight n to weight n
grown_none to weight n h =
    record {
      up = omega arith;
      few = omega arith;
      targets = λ i l. refl;
      weights = λ i l. refl;
      sound = λ i l m. absurd (omega arith);
      whole = λ b w r. absurd (h b w r);
    }

module _ {most : ℕ} {R : Links} {to weight to' weight' : List ℕ} {n r : ℕ} (g : Extended most R to weight n to' weight' r) where
  -- the same rules by another name
  pub grown_as
      : {S : Links} (more : ℕ)
      → most ≤ more
      → ((b w : ℕ) → R b w → S b w)
      → ((b w : ℕ) → S b w → R b w)
      → Extended more S to weight n to' weight' r
  grown_as more l f h =
      record {
        up = g.up;
        few = omega (arith, g.few);
        targets = g.targets;
        weights = g.weights;
        sound = λ i a c. f _ _ (g.sound i a c);
        whole = λ b w p. g.whole b w (h b w p);
      }

  -- one entry more
  grown_put
      : {S : Links} (more x y : ℕ)
      → most < more
      → r < length to'
      → r < length weight'
      → ((b w : ℕ) → R b w → S b w)
      → S x y
      → ((b w : ℕ) → S b w → R b w ⊎ ((b ≡ x) × (w ≡ y)))
      → Extended more S to weight n (set to' r x) (set weight' r y) (r + 1)
  grown_put {S} more x y l lt lw old new split =
      record {
        up = omega (arith, g.up);
        few = omega (arith, g.few);
        targets = λ i h. get_or-set_other to' r i x 0 (λ e. omega (arith, g.up)) ∙ g.targets i h;
        weights = λ i h. get_or-set_other weight' r i y 0 (λ e. omega (arith, g.up)) ∙ g.weights i h;
        sound =
            λ i a c.
            dite (ℕ_discrete i r)
            (λ e. rw (e, get_or-set_same to' r x 0 lt, get_or-set_same weight' r y 0 lw) new)
            (λ d. rw (get_or-set_other to' r i x 0 d, get_or-set_other weight' r i y 0 d) (old _ _ (g.sound i a (omega arith))));
        whole =
            λ b w p.
            ⊎_elim
            (λ q.
            let e = g.whole b w q in
            let d : e.place ≢ r = λ z. omega (arith, e.below) in
            record {
              place = e.place;
              from = e.from;
              below = omega (arith, e.below);
              target = get_or-set_other to' r e.place x 0 d ∙ e.target;
              weighs = get_or-set_other weight' r e.place y 0 d ∙ e.weighs;
            })
            (λ q.
            record {
              place = r;
              from = g.up;
              below = omega arith;
              target = get_or-set_same to' r x 0 lt ∙ sym q.0;
              weighs = get_or-set_same weight' r y 0 lw ∙ sym q.1;
            })
            (split b w p);
      }

  -- one part after the other
  pub grown_then
      : {next : ℕ} {S T : Links} {to'' weight'' : List ℕ} {m : ℕ} (more : ℕ)
      → Extended next S to' weight' r to'' weight'' m
      → most + next ≤ more
      → ((b w : ℕ) → R b w → T b w)
      → ((b w : ℕ) → S b w → T b w)
      → ((b w : ℕ) → T b w → R b w ⊎ S b w)
      → Extended more T to weight n to'' weight'' m
  grown_then {next} {S} {T} {to''} {weight''} {m} more h l f k split =
      record {
        up = omega (arith, g.up, h.up);
        few = omega (arith, g.few, h.few);
        targets = λ i a. h.targets i (omega (arith, g.up)) ∙ g.targets i a;
        weights = λ i a. h.weights i (omega (arith, g.up)) ∙ g.weights i a;
        sound =
            λ i a c.
            dite (dec_lt i r)
            (λ d. rw (h.targets i d, h.weights i d) (f _ _ (g.sound i a d)))
            (λ d. k _ _ (h.sound i (omega arith) c));
        whole =
            λ b w p.
            ⊎_elim
            (λ q.
            let e = g.whole b w q in
            record {
              place = e.place;
              from = e.from;
              below = omega (arith, e.below, h.up);
              target = h.targets e.place e.below ∙ e.target;
              weighs = h.weights e.place e.below ∙ e.weighs;
            })
            (λ q.
            let e = h.whole b w q in
            record {
              place = e.place;
              from = omega (arith, e.from, g.up);
              below = e.below;
              target = e.target;
              weighs = e.weighs;
            })
            (split b w p);
      }

-- ---- a copied row

module _ (to weight all allw : List ℕ) (lo start : ℕ) where
  abbrev pub Copied : (p : ℕ) (all' allw' : List ℕ) (n : ℕ) → Type 0
  Copied p all' allw' n = Extended (p - lo) (Entry to weight lo p) all allw start all' allw' n

  copied_step
      : (p : ℕ) (all' allw' : List ℕ) (n : ℕ)
      → Copied p all' allw' n
      → lo ≤ p
      → n < length all'
      → n < length allw'
      → Copied (p + 1) (set all' n (get_or to p 0)) (set allw' n (get_or weight p 0)) (n + 1)
  copied_step p all' allw' n g l lt lw =
      grown_put g (p + 1 - lo) _ _ (omega arith) lt lw (λ b w. entry_more (omega arith)) (entry_here to weight lo p l)
      (entry_last to weight lo p)

-- a turn of the copying loop, at place p of lo up to hi
pub record CopyTurn (to weight all allw : List ℕ) (lo hi start p : ℕ) (all' allw' : List ℕ) (n : ℕ) : Type 0 where
  pub grown : Copied to weight all allw lo start p all' allw' n
  pub from : lo ≤ p
  pub below : p ≤ hi
  pub targets : length all' ≡ length all
  pub weights : length allw' ≡ length allw

-- the next place is there
pub record Next (all allw : List ℕ) (n : ℕ) : Type 0 where
  pub target : n < length all
  pub weight : n < length allw
  pub small : n + 1 < word

module _ (to weight all allw : List ℕ) (lo hi start : ℕ) where
  module _ (p : ℕ) (all' allw' : List ℕ) (n : ℕ) (h : CopyTurn to weight all allw lo hi start p all' allw' n) where
    pub copy_next : RoomFor (hi - lo) all allw start → p < hi → Next all' allw' n
    copy_next f l =
        let k = h.grown.few in
        let m = h.from in
        record {
          target = omega (arith, f.targets, h.targets);
          weight = omega (arith, f.weights, h.weights);
          small = omega (arith, f.small);
        }

    copy_step
        : RoomFor (hi - lo) all allw start
        → p < hi
        → CopyTurn to weight all allw lo hi start (p + 1) (set all' n (get_or to p 0)) (set allw' n (get_or weight p 0)) (n + 1)
    copy_step f l =
        let k = copy_next f l in
        record {
          grown = copied_step to weight all allw lo start p all' allw' n h.grown h.from k.target k.weight;
          from = omega (arith, h.from);
          below = omega arith;
          targets = length-set all' n _ ∙ h.targets;
          weights = length-set allw' n _ ∙ h.weights;
        }

    -- the same, by what the stores say
    pub Copy-Stored
        : (x y : ℕ) (all'' allw'' : List ℕ)
        → RoomFor (hi - lo) all allw start
        → p < hi
        → x ≡ get_or to p 0
        → y ≡ get_or weight p 0
        → all'' ≡ set all' n x
        → allw'' ≡ set allw' n y
        → CopyTurn to weight all allw lo hi start (p + 1) all'' allw'' (n + 1)
    Copy-Stored x y all'' allw'' f l q r u v =
        subst₂ (λ a b. CopyTurn to weight all allw lo hi start (p + 1) a b (n + 1))
        (ap (set all' n) (sym q) ∙ sym u)
        (ap (set allw' n) (sym r) ∙ sym v)
        (copy_step f l)

-- ---- a link's group

module _ (s : Sheet) (event : List ℕ) (jobs : List Bool) (link : Link) where
  -- the weight of a rule to event e
  abbrev weight_to : ℕ → ℕ
  weight_to e = link.base + distance_by link.gap link.job (s.event e).job

  module _ (lo : ℕ) where
    spot_more : {p q b w : ℕ} → p ≤ q → LinkSpot s event jobs link lo p b w → LinkSpot s event jobs link lo q b w
    spot_more l e =
        record {
          place = e.place;
          from = e.from;
          below = omega (arith, e.below);
          stands = e.stands;
          wanted = e.wanted;
          weighs = e.weighs;
        }

    spot_here
        : (p e : ℕ)
        → lo ≤ p
        → get_or event p 0 ≡ e
        → On jobs (s.event e).job
        → LinkSpot s event jobs link lo (p + 1) e (weight_to e)
    spot_here p e l q h = record { place = p; from = l; below = omega arith; stands = q; wanted = h; weighs = refl }

    -- the last place, or an earlier one
    spot_last
        : (p e b w : ℕ)
        → get_or event p 0 ≡ e
        → LinkSpot s event jobs link lo (p + 1) b w
        → LinkSpot s event jobs link lo p b w ⊎ ((b ≡ e) × On jobs (s.event e).job × (w ≡ weight_to e))
    spot_last p e b w q x =
        dite (ℕ_discrete x.place p)
        (λ z.
        let same : b ≡ e = sym x.stands ∙ ap (λ k. get_or event k 0) z ∙ q in
        inr (same, subst (λ k. On jobs (s.event k).job) same x.wanted, x.weighs ∙ ap weight_to same))
        (λ d.
        inl
        (record {
          place = x.place;
          from = x.from;
          below = omega (arith, x.below);
          stands = x.stands;
          wanted = x.wanted;
          weighs = x.weighs;
        }))

    module _ (to weight : List ℕ) (start : ℕ) where
      abbrev pub Spotted : (p : ℕ) (to' weight' : List ℕ) (n : ℕ) → Type 0
      Spotted p to' weight' n = Extended (p - lo) (LinkSpot s event jobs link lo p) to weight start to' weight' n

      spotted_put
          : (p e j : ℕ) (to' weight' : List ℕ) (n d : ℕ)
          → Spotted p to' weight' n
          → lo ≤ p
          → e ≡ get_or event p 0
          → j ≡ (s.event e).job
          → On jobs j
          → d ≡ distance_by link.gap link.job j
          → n < length to'
          → n < length weight'
          → Spotted (p + 1) (set to' n e) (set weight' n (link.base + d)) (n + 1)
      spotted_put p e j to' weight' n d g l q k h z lt lw =
          let here = subst (λ x. On jobs x) k h in
          let far : weight_to e ≡ link.base + d =
          ap (λ x. link.base + x) (ap (distance_by link.gap link.job) (sym k) ∙ sym z) in
          grown_put g (p + 1 - lo) e (link.base + d) (omega arith) lt lw (λ b w. spot_more (omega arith))
          (subst (λ w. LinkSpot s event jobs link lo (p + 1) e w) far (spot_here p e l (sym q) here))
          (λ b w x. ⊎_elim inl (λ y. inr (y.0, y.2 ∙ far)) (spot_last p e b w (sym q) x))

      spotted_skip
          : (p e j : ℕ) (to' weight' : List ℕ) (n : ℕ)
          → Spotted p to' weight' n
          → lo ≤ p
          → e ≡ get_or event p 0
          → j ≡ (s.event e).job
          → (On jobs j → ⊥)
          → Spotted (p + 1) to' weight' n
      spotted_skip p e j to' weight' n g l q k h =
          grown_as g (p + 1 - lo) (omega arith) (λ b w. spot_more (omega arith))
          (λ b w x. ⊎_elim (λ y. y) (λ y. absurd (h (subst (λ x. On jobs x) (sym k) y.1))) (spot_last p e b w (sym q) x))

-- a turn of the loop over a link's group, at place p of lo up to hi
pub record SpotTurn
    (s : Sheet) (event : List ℕ) (jobs : List Bool) (link : Link) (to weight : List ℕ) (lo hi start p : ℕ)
    (to' weight' : List ℕ) (n : ℕ)
    : Type 0 where
  pub grown : Spotted s event jobs link lo to weight start p to' weight' n
  pub from : lo ≤ p
  pub below : p ≤ hi
  pub targets : length to' ≡ length to
  pub weights : length weight' ≡ length weight

module _ (s : Sheet) (event : List ℕ) (jobs : List Bool) (link : Link) (to weight : List ℕ) (lo hi start : ℕ) where
  module _
      (p : ℕ) (to' weight' : List ℕ) (n : ℕ)
      (h : SpotTurn s event jobs link to weight lo hi start p to' weight' n)
    where
      pub spot_next : RoomFor group_most to weight start → hi ≤ lo + group_most → p < hi → Next to' weight' n
      spot_next f few l =
          let k = h.grown.few in
          let m = h.from in
          record {
            target = omega (arith, f.targets, h.targets);
            weight = omega (arith, f.weights, h.weights);
            small = omega (arith, f.small);
          }

      spot_put
          : (e j d : ℕ)
          → RoomFor group_most to weight start
          → hi ≤ lo + group_most
          → p < hi
          → e ≡ get_or event p 0
          → j ≡ (s.event e).job
          → On jobs j
          → d ≡ distance_by link.gap link.job j
          → SpotTurn s event jobs link to weight lo hi start (p + 1) (set to' n e) (set weight' n (link.base + d)) (n + 1)
      spot_put e j d f few l q k o z =
          let x = spot_next f few l in
          record {
            grown =
                spotted_put s event jobs link lo to weight start p e j to' weight' n d h.grown h.from q k o z
                x.target
                x.weight;
            from = omega (arith, h.from);
            below = omega arith;
            targets = length-set to' n e ∙ h.targets;
            weights = length-set weight' n (link.base + d) ∙ h.weights;
          }

      -- the same, by what the stores say
      pub spot_stored
          : (e j d : ℕ) (to'' weight'' : List ℕ)
          → RoomFor group_most to weight start
          → hi ≤ lo + group_most
          → p < hi
          → e ≡ get_or event p 0
          → j ≡ (s.event e).job
          → On jobs j
          → d ≡ distance_by link.gap link.job j
          → to'' ≡ set to' n e
          → weight'' ≡ set weight' n (link.base + d)
          → SpotTurn s event jobs link to weight lo hi start (p + 1) to'' weight'' (n + 1)
      spot_stored e j d to'' weight'' f few l q k o z u v =
          subst₂ (λ a b. SpotTurn s event jobs link to weight lo hi start (p + 1) a b (n + 1)) (sym u) (sym v)
          (spot_put e j d f few l q k o z)

      pub spot_skip
          : (e j : ℕ)
          → p < hi
          → e ≡ get_or event p 0
          → j ≡ (s.event e).job
          → (On jobs j → ⊥)
          → SpotTurn s event jobs link to weight lo hi start (p + 1) to' weight' n
      spot_skip e j l q k o =
          record {
            grown = spotted_skip s event jobs link lo to weight start p e j to' weight' n h.grown h.from q k o;
            from = omega (arith, h.from);
            below = omega arith;
            targets = h.targets;
            weights = h.weights;
          }

-- a link that is shown leads to the spots of its events, and one that is not to nothing
module _ (s : Sheet) (c : List (List ℕ)) (jobs : List Bool) (link : Link) (to weight : List ℕ) (start : ℕ) where
  pub group_end
      : (p : ℕ) (to' weight' : List ℕ) (n : ℕ)
      → link.shown ≡ true
      → SpotTurn s (events_in c) jobs link to weight (link_from c link) (link_end c link) start p to' weight' n
      → link_end c link ≤ p
      → link_end c link ≤ link_from c link + group_most
      → Extended group_most (LinkGroup s c jobs link) to weight start to' weight' n
  group_end p to' weight' n h turn l few =
      let q : p ≡ link_end c link = omega (arith, turn.below) in
      grown_as turn.grown group_most (omega arith)
      (λ b w x. record { shows = h; spot = subst (λ k. LinkSpot s (events_in c) jobs link (link_from c link) k b w) q x })
      (λ b w x. subst (λ k. LinkSpot s (events_in c) jobs link (link_from c link) k b w) (sym q) x.spot)
