use Rattle.std.proofs.Common.{ℕ, ◌+◌, ◌*◌, ◌≤◌, List, map, arith, sym, subst}
use Rattle.laws.specs.Columns.{get_d_map}
use Rattle.sheet.specs.WellFormed.{said_by}
use Rattle.own_times.specs.View.{StrideIs}
use Rattle.order_guard.specs.Basis.{Read}
use Rattle.order_table.specs.View.{OrdersAsk, Strided, small, large}
use Rattle.order_table.specs.Laws.{ground, room_most}
use Rattle.order_table.proofs.shown.Goals as goal
use Rattle.order_table.proofs.shown.Goals.{After-stride-m}

-- the stride, of the bundle's column
strided
    : (c : After-stride-m)
    → Strided
    c.args.sheet.now
    (map (λ x. x.now) c.args.columns)
    c.stride-m.result
    (c.args.sheet.now.view.events + c.stride-m.result * c.args.sheet.now.view.events + c.args.sheet.now.view.events)
strided c =
    record {
      stride =
          subst (λ (l : List ℕ). StrideIs (said_by c.args.sheet.now).jobs l c.stride-m.result)
          (sym (get_d_map (λ x. x.now) c.args.columns 4 _))
          c.stride-m.ensures;
      fits = omega arith;
    }

-- and the room that the table needs
most
    : (c : After-stride-m)
    → c.args.sheet.now.view.events + c.stride-m.result * c.args.sheet.now.view.events + c.args.sheet.now.view.events ≤ large
most c = room_most c.requires (strided c)

pub overflow_mul-room : goal.overflow_mul-room
overflow_mul-room c = omega (arith, most (goal.at.overflow_mul-room c).After-stride-m)

pub overflow_add-room : goal.overflow_add-room
overflow_add-room c = omega (arith, most (goal.at.overflow_add-room c).After-stride-m)

pub overflow_add-room-2 : goal.overflow_add-room-2
overflow_add-room-2 c = omega (arith, most (goal.at.overflow_add-room-2 c).After-stride-m)

pub new-basis-requires : goal.new-basis-requires
new-basis-requires c = ground c.requires (strided (goal.at.new-basis-requires c).After-stride-m)

pub in_table-requires-clause-orders_ask : goal.in_table-requires-clause-orders_ask
in_table-requires-clause-orders_ask c =
    subst (λ (k : Read). OrdersAsk k.sheet k.columns k.own c.args.jobs.now) (sym c.new-basis.ensures) c.requires

pub in_table-requires-clause-strided : goal.in_table-requires-clause-strided
in_table-requires-clause-strided c =
    let t = strided (goal.at.in_table-requires-clause-strided c).After-stride-m in
    subst (λ (k : Read). Strided k.sheet k.columns k.stride small) (sym c.new-basis.ensures)
    (record { stride = t.stride; fits = omega arith })

pub in_larger-requires-clause-orders_ask : goal.in_larger-requires-clause-orders_ask
in_larger-requires-clause-orders_ask c =
    subst (λ (k : Read). OrdersAsk k.sheet k.columns k.own c.args.jobs.now) (sym c.new-basis.ensures) c.requires

pub in_larger-requires-clause-strided : goal.in_larger-requires-clause-strided
in_larger-requires-clause-strided c =
    let w = (goal.at.in_larger-requires-clause-strided c).After-stride-m in (
      subst
          (λ (k : Read).
          Strided k.sheet k.columns k.stride
          (c.args.sheet.now.view.events + c.stride-m.result * c.args.sheet.now.view.events + c.args.sheet.now.view.events))
          (sym c.new-basis.ensures)
          (strided w),
      most w,
    )
