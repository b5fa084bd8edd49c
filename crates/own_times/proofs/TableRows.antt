-- The table, row by row: what a row asks follows from least own times, and a row leaves the others alone.
use Prim.Native.Nat.{ℕ, ◌+◌, ◌-◌, ◌*◌, ◌≤◌, ◌<◌}
use native.Mathlib.Omega.{arith}
use native.Mathlib.Nat.{mul-le-mul_left, mul-add}
use native.Mathlib.Decide.{dec_lt}
use mathlib.Core.Path.{◌≡◌, refl, sym, ap, ◌∙◌, subst}
use mathlib.Core.Logic.{◌≢◌}
use mathlib.Core.List.{List, ◌++◌}
use lib.ListN.{length, get_or, set, take, drop, get_or-append, length-set, length-drop, length-take}
use borrow.Rule.Slice.PartMut.{put_mid, post_of, Post-is}
use lib.Seq.{get_or-take, get_or-drop, get_or-append-add, get_or-set_other, length-take-le}
use Rattle.rules.specs.Sheet as rules
use Rattle.rules.specs.Plan.{OwnTimes, earliest}
use Rattle.rules.specs.Wanted.{RunsAlone}
use Rattle.sheet.specs.declared.formed.WellFormed.{WellFormed}
use Rattle.laws.specs.Formed.{Formed}
use Rattle.laws.specs.Events.{small, by_job_lem}
use Rattle.laws.specs.Set.{same_or_not}
use Rattle.sheet.specs.WellFormed.{said_by, formed_by}
use Rattle.index.specs.View.{ByJobOf}
use Rattle.kernel_least.specs.System.{Between, Solves, Least}
use Rattle.kernel_least.specs.Rows as kernel
use Rattle.kernel_least.specs.Rows.{Row, rows_of, system_of, Shaped, Lent, Same, at}
use Rattle.kernel_least.specs.declared.Range.{Range}
use Rattle.laws.specs.Columns.{col}
use Rattle.own_times.specs.Rules.{OwnRule, Has}
use Rattle.own_times.specs.Times.{JobRule, JobSpan, same_job_lem, own_same, own_solves, solves_own, closed}
use Rattle.own_times.specs.Wide.{WideRow, Filled}
use Rattle.kernel_widest.specs.View.{WideAsks, WideDone}
use Rattle.own_times.specs.View.{RowsAsk, RulesIn, TimesAsk, SpansIn, RowAsks, TableRow}
use Rattle.own_times.proofs.Own.{Span-of, part_has, rows_shaped, solves_all, solves_some}

wide_same
    : (s : rules.Sheet) (f : Formed s) (x : ℕ) (t u : ℕ → ℕ)
    → x < s.events
    → ((y : ℕ) → y < s.events → (s.event y).job ≡ (s.event x).job → u y ≡ t y)
    → WideRow s x t
    → WideRow s x u
wide_same s f x t u l same p =
    record {
      own = own_same s f _ t u same p.own;
      widest = λ o q y k h. omega (arith, same x l refl, same y k h, p.widest o q y k h);
    }

-- ---- a part that is put back

module _ (a : ℕ) (xs ys zs : List ℕ) (l : a ≤ length xs) where
  before_part : (i : ℕ) → i < a → get_or (take a xs ++ (ys ++ zs)) i 0 ≡ get_or xs i 0
  before_part i k =
      get_or-append (take a xs) (ys ++ zs) 0 i (omega (arith, length-take-le a xs l)) ∙ get_or-take a xs i 0 k

  in_part : (y : ℕ) → y < length ys → get_or (take a xs ++ (ys ++ zs)) (a + y) 0 ≡ get_or ys y 0
  in_part y k =
      ap (λ n. get_or (take a xs ++ (ys ++ zs)) (n + y) 0) (sym (length-take-le a xs l))
      ∙ get_or-append-add (take a xs) (ys ++ zs) y 0
      ∙ get_or-append ys zs 0 y k

  after_part : (y i : ℕ) → i ≡ a + length ys + y → get_or (take a xs ++ (ys ++ zs)) i 0 ≡ get_or zs y 0
  after_part y i is =
      ap (λ n. get_or (take a xs ++ (ys ++ zs)) n 0) (omega (arith, length-take-le a xs l))
      ∙ get_or-append-add (take a xs) (ys ++ zs) (length ys + y) 0
      ∙ get_or-append-add ys zs y 0

-- ---- one row

module _ {sheet : WellFormed} {jobs first to weight x : List ℕ} {m : ℕ}
    (asks : RowsAsk sheet jobs first to weight)
    (times : TimesAsk (said_by sheet) m jobs x)
    {n e : ℕ} {table : List ℕ}
    (lent : RowAsks (said_by sheet) n m e table)
    (j lo hi h : ℕ)
    (is_job : j ≡ ((said_by sheet).event e).job)
    (isLo : lo ≡ get_or jobs j 0)
    (isHi : hi ≡ get_or jobs (j + 1) 0)
    (horizon : h ≡ (said_by sheet).horizon) where
  abbrev s : rules.Sheet
  s = said_by sheet

  formed : Formed s
  formed = (formed_by sheet).formed

  row_job : j < s.jobs
  row_job = omega (arith, formed.job e lent.event.in_sheet)

  span : JobSpan s j lo hi
  span = rw (isLo, isHi) (Span-of s jobs asks.by_job j row_job)

  here : Between lo hi e
  here = span.holds e lent.event.in_sheet (sym is_job)

  in_sheet_lem : hi ≤ s.events
  in_sheet_lem = omega (arith, asks.by_job.within (j + 1) (omega (arith, row_job)), isHi)

  pub row_shaped : Shaped first to weight lo hi
  row_shaped =
      rows_shaped s (OwnRule s) (same_job_lem s formed) asks.rows (formed_by sheet).few.events span
      (omega (arith, here.from, here.below))

  job_in_lem : (a c w : ℕ) → JobRule s j a c w → Between lo hi a
  job_in_lem a c w p = (closed s formed j lo hi span a c w p).0

  has : Has s.horizon (JobRule s j) (Row first to weight lo hi)
  has = part_has s (OwnRule s) (same_job_lem s formed) asks.rows (formed_by sheet).few.events span

  to_rows : {t : ℕ → ℕ} → OwnTimes s j t → Solves (rows_of first to weight lo hi s.horizon) (λ u. earliest s j) t
  to_rows p = solves_some lo hi s.horizon (JobRule s j) (Row first to weight lo hi) has job_in_lem (own_solves s formed j lo hi span p)

  from_rows : {t : ℕ → ℕ} → Solves (rows_of first to weight lo hi s.horizon) (λ u. earliest s j) t → OwnTimes s j t
  from_rows p =
      solves_own s formed j lo hi span
      (solves_all lo hi s.horizon (JobRule s j) (Row first to weight lo hi) has job_in_lem p)

  row_least : Least (rows_of first to weight lo hi s.horizon) (λ u. earliest s j) (at x)
  row_least =
      let p = times.least.own j row_job (subst (RunsAlone s) (sym is_job) lent.event.alone) in
      record {
        solves = to_rows p.own;
        least = λ y q u o. p.least y (from_rows q) u (span.in_sheet u o) (span.of_job u o);
      }

  pub row_asks : WideAsks (rows_of first to weight lo hi h) e x
  row_asks =
      subst (λ k. WideAsks (rows_of first to weight lo hi k) e x) (sym horizon)
      (record {
        of = here;
        long = omega (arith, in_sheet_lem, times.long);
        solves = record { above = λ u o. omega arith; below = row_least.solves.below; kept = row_least.solves.kept };
      })

  -- the row has room
  pub row_room : n + m * e + hi ≤ length table
  row_room =
      let l : m * e ≤ m * s.events = mul-le-mul_left m (omega (arith, lent.event.in_sheet)) in
      omega (arith, in_sheet_lem, lent.room)

  row_size : length (take (n + m * e + hi - (n + m * e)) (drop (n + m * e) table)) ≡ hi
  row_size = simp (length-take, length-drop) (omega (arith, row_room))

  pub row_lent : Lent hi (2 * h) (take (n + m * e + hi - (n + m * e)) (drop (n + m * e) table))
  row_lent = record { low = omega (arith, (small s formed).horizon); ticks = omega (arith, row_size) }

  -- what stands elsewhere stays
  row_others
      : (row rest : List ℕ)
      → rest ≡ drop (n + m * e + hi) table
      → length row ≡ length (take (n + m * e + hi - (n + m * e)) (drop (n + m * e) table))
      → Same lo hi (take (n + m * e + hi - (n + m * e)) (drop (n + m * e) table)) row
      → (i : ℕ)
      → (Between (n + m * e + lo) (n + m * e + hi) i → ⊥)
      → get_or (take (n + m * e) table ++ (row ++ rest)) i 0 ≡ get_or table i 0
  row_others row rest after long same i d = go (dec_lt i (n + m * e)) (dec_lt i (n + m * e + hi))
    where
      l : n + m * e ≤ length table
      l = omega (arith, row_room)

      go : Dec (i < n + m * e) → Dec (i < n + m * e + hi) → get_or (take (n + m * e) table ++ (row ++ rest)) i 0 ≡ get_or table i 0
      go (yes b) _ = before_part (n + m * e) table row rest l i b
      go (no b) (yes k) =
          let y : ℕ = i - (n + m * e) in
          let is : i ≡ n + m * e + y = omega arith in
          ap (λ k. get_or (take (n + m * e) table ++ (row ++ rest)) k 0) is
          ∙ in_part (n + m * e) table row rest l y (omega (arith, long, row_size))
          ∙ same y (λ o. d (record { from = omega (arith, o.from); below = omega arith }))
          ∙ get_or-take (n + m * e + hi - (n + m * e)) (drop (n + m * e) table) y 0 (omega arith)
          ∙ get_or-drop (n + m * e) table y 0
          ∙ ap (λ k. get_or table k 0) (sym is)
      go (no b) (no k) =
          let y : ℕ = i - (n + m * e + hi) in
          let is : i ≡ n + m * e + hi + y = omega arith in
          ap (λ k. get_or (take (n + m * e) table ++ (row ++ rest)) k 0) is
          ∙ after_part (n + m * e) table row rest l y (n + m * e + hi + y) (omega (arith, long, row_size))
          ∙ ap (λ l. get_or l y 0) after
          ∙ get_or-drop (n + m * e + hi) table y 0
          ∙ ap (λ k. get_or table k 0) (sym is)

  row_table
      : (row rest : List ℕ)
      → rest ≡ drop (n + m * e + hi) table
      → length row ≡ length (take (n + m * e + hi - (n + m * e)) (drop (n + m * e) table))
      → WideDone (rows_of first to weight lo hi h) e x (take (n + m * e + hi - (n + m * e)) (drop (n + m * e) table)) row
      → TableRow s n m jobs e table (take (n + m * e) table ++ (row ++ rest))
  row_table row rest after long done =
      let d = subst (λ k. WideDone (rows_of first to weight lo hi k) e x
      (take (n + m * e + hi - (n + m * e)) (drop (n + m * e) table)) row) horizon done in
      let l : n + m * e ≤ length table = omega (arith, row_room) in
      let w = d.widened (λ u. earliest s j) row_least in
      let own = from_rows w.solves in
      record {
        row =
            wide_same s formed e (at row) (λ y. get_or (take (n + m * e) table ++ (row ++ rest)) (n + m * e + y) 0)
            lent.event.in_sheet
            (λ y k q. in_part (n + m * e) table row rest l y (omega (arith, long, row_size, (span.holds y k (q ∙ sym is_job)).below)))
            (record {
              own = subst (λ i. OwnTimes s i (at row)) is_job own;
              widest =
                  λ t q y k g.
                  w.widest t (to_rows (subst (λ i. OwnTimes s i t) (sym is_job) q)) y (span.holds y k (g ∙ sym is_job));
            });
        others =
            subst
            (λ i.
            (k : ℕ)
            → (Between (n + m * e + get_or jobs i 0) (n + m * e + get_or jobs (i + 1) 0) k → ⊥)
            → get_or (take (n + m * e) table ++ (row ++ rest)) k 0 ≡ get_or table k 0)
            is_job
            (rw (sym isLo, sym isHi) (row_others row rest after long d.outside));
      }

  pub row_put
      : (row : List ℕ)
      → length row ≡ length (take (n + m * e + hi - (n + m * e)) (drop (n + m * e) table))
      → WideDone (rows_of first to weight lo hi h) e x (take (n + m * e + hi - (n + m * e)) (drop (n + m * e) table)) row
      → TableRow s n m jobs e table (put_mid (n + m * e) (n + m * e + hi - (n + m * e)) table row)
  row_put row = row_table row (post_of (n + m * e) (n + m * e + hi - (n + m * e)) table) (Post-is (n + m * e) (n + m * e + hi) table (omega arith))

-- ---- the rules as the kernel has them, taken from the columns o

module _ {o r : List (List ℕ)} (rules : RulesIn o r) {y : List ℕ} (ticks : col o 3 ≡ y) {range : Range} {e : ℕ} where
  pub to_rules
      : {row : List ℕ}
      → Shaped (col o 0) (col o 1) (col o 2) range.lo range.hi
      → Lent range.hi (2 * range.ceiling) row
      → WideAsks (rows_of (col o 0) (col o 1) (col o 2) range.lo range.hi range.ceiling) e (col o 3)
      → kernel.RowsFormed r range × (Lent range.hi (2 * range.ceiling) row × WideAsks (system_of r range) e y)
  to_rules p q w = (rw (rules.first, rules.to, rules.weight) p, (q, rw (rules.first, rules.to, rules.weight, sym ticks) w))

  pub from_rules
      : {row₀ row : List ℕ}
      → WideDone (system_of r range) e y row₀ row
      → WideDone (rows_of (col o 0) (col o 1) (col o 2) range.lo range.hi range.ceiling) e (col o 3) row₀ row
  from_rules w = rw (sym rules.first, sym rules.to, sym rules.weight, ticks) w

-- ---- all rows

-- a lower row ends before this one begins: m is at least every job's span
module _ (s : rules.Sheet) (f : Formed s) {jobs : List ℕ} (by_job : ByJobOf s jobs) (m : ℕ) (spans : SpansIn s.jobs jobs m) where
  apart
      : (x e y : ℕ)
      → x < e
      → e < s.events
      → y < s.events
      → (s.event y).job ≡ (s.event x).job
      → m * x + y < m * e + get_or jobs (s.event e).job 0
  apart x e y l k ky q = omega (arith, far, below (dec_lt y e), spans (s.event e).job (f.job e k))
    where
      far : m * x + m ≤ m * e
      far = let h : m * (x + 1) ≤ m * e = mul-le-mul_left m (omega arith) in omega (arith, mul-add m x 1)

      below : Dec (y < e) → y < get_or jobs ((s.event e).job + 1) 0
      below (yes b) = omega (arith, by_job.to e (s.event e).job k (f.job e k) refl)
      below (no b) =
          by_job.to y (s.event e).job ky (f.job e k)
          (omega (arith, by_job_lem s f x e (omega arith) k, by_job_lem s f e y (omega arith) ky))

-- one row more: the others stay
module _ (s : rules.Sheet) (f : Formed s) {jobs : List ℕ} (by_job : ByJobOf s jobs) (n m e : ℕ) (spans : SpansIn s.jobs jobs m)
    (in_sheet : e < s.events) where
  -- no tick of another row stands in the row of e
  elsewhere
      : (x y : ℕ)
      → x < s.events
      → x ≢ e
      → y < s.events
      → (s.event y).job ≡ (s.event x).job
      → Between (n + m * e + get_or jobs (s.event e).job 0) (n + m * e + get_or jobs ((s.event e).job + 1) 0) (n + m * x + y)
      → ⊥
  elsewhere x y lx d ly q o = go (dec_lt x e)
    where
      last : ℕ
      last = get_or jobs ((s.event e).job + 1) 0 - 1

      after : e < get_or jobs ((s.event e).job + 1) 0
      after = by_job.to e (s.event e).job in_sheet (f.job e in_sheet) refl

      from : get_or jobs (s.event e).job 0 ≤ e
      from = by_job.from e (s.event e).job in_sheet (f.job e in_sheet) refl

      go : Dec (x < e) → ⊥
      go (yes b) = omega (arith, o.from, apart s f by_job m spans x e y b in_sheet ly q)
      go (no b) =
          omega (
            arith,
            o.below,
            after,
            by_job.from y (s.event x).job ly (f.job x lx) q,
            apart s f by_job m spans e x last (omega arith) lx
                (omega (arith, after, by_job.within ((s.event e).job + 1) (omega (arith, f.job e in_sheet))))
                (by_job.of_job last (s.event e).job (f.job e in_sheet) (omega (arith, after, from)) (omega (arith, after))),
          )

  -- the mark of e is set
  module _ {table table' table'' : List ℕ} (p : Filled s n m table) (long : length table' ≡ length table) (d : TableRow s n m jobs e table table')
      (is : table'' ≡ set table' e 1) where
    -- no mark stands in a row
    mark : (x : ℕ) → x < s.events → get_or table' x 0 ≡ get_or table x 0
    mark x l = d.others x (λ o. omega (arith, o.from, p.marks))

    there : e < length table'
    there = omega (arith, p.room, p.marks)

    row_cell : (x y : ℕ) → get_or table'' (n + m * x + y) 0 ≡ get_or table' (n + m * x + y) 0
    row_cell x y = ap (λ l. get_or l (n + m * x + y) 0) is ∙ get_or-set_other table' e (n + m * x + y) 1 0 (λ q. omega (arith, p.marks))

    pub filled_row : Filled s n m table''
    filled_row =
        record {
          marks = p.marks;
          room = rw is (simp length-set (omega (arith, p.room)));
          rows =
              λ x l h.
              wide_same s f x (λ y. get_or table' (n + m * x + y) 0) (λ y. get_or table'' (n + m * x + y) 0) l (λ y k g. row_cell x y)
              (same_or_not x e
              (λ (q : x ≡ e). subst (λ i. WideRow s i (λ y. get_or table' (n + m * i + y) 0)) (sym q) d.row)
              (λ k.
              wide_same s f x (λ y. get_or table (n + m * x + y) 0) (λ y. get_or table' (n + m * x + y) 0) l
              (λ y i g. d.others (n + m * x + y) (elsewhere x y l k i g))
              (p.rows x l (omega (arith, mark x l, ap (λ t. get_or t x 0) is, get_or-set_other table' e x 1 0 k)))));
        }
