-- A worker's bench may go to another thread.
use denote.RattleType.{RattleType}
use denote.Param.Send.{IsSend, view_send, sendable}
use denote.Param.SendFields.{as_row_send, declared_send}
use Rattle.std.proofs.Crossing as heap
use Rattle.atomic_table.proofs.shared.Seat.TheSendSync as places
use Rattle.list_weights.specs.contracts.trail.Trail as trail
use Rattle.list_weights.proofs.trail.Trail.TheLaws.TheKnot as trails
use Rattle.steal_workers.specs.contracts.seat.Seat as seat
use Rattle.steal_workers.specs.contracts.seat.Seat.TheInside as seat_inside
use Rattle.steal_workers.proofs.share.Share.TheSendSync as share
use Rattle.host_inbox.specs.contracts.carrier.Carrier as carrier
use Rattle.host_inbox.specs.contracts.carrier.Carrier.TheInside as carrier_inside
use Rattle.host_inbox.specs.contracts.put.Put as put
use Rattle.sim_base.specs.contracts.event.Parcel as parcel
use Rattle.sim_base.proofs.event.Parcel.TheSendSync as parcels
use Rattle.round_lookahead.specs.contracts.workers.host_task.HostTask as task
use Rattle.round_lookahead.proofs.workers.host_task.HostTask.TheSendSync as tasks
use Rattle.round_lookahead.proofs.workers.worked.Worked.TheSendSync as works
use Rattle.round_lookahead.specs.contracts.workers.bench.Bench as bench
use Rattle.round_lookahead.specs.contracts.world.share.Share as shares
use Rattle.round_lookahead.proofs.world.in_place.Alone.TheSendSync as alone

module _ (T : RattleType) where
  seat_fields_send : IsSend T → IsSend (seat_inside.the_row T)
  seat_fields_send s =
      declared_send (seat_inside.the_type T) (search sendable, (search sendable, (search (share.the_send, heap.Vec-send, sendable) depth 20, (search (trails.send-Trail, sendable) depth 20, (search (heap.crosses, sendable) depth 20, tt)))))

  pub seat_send : IsSend T → IsSend (seat.the_row T)
  seat_send s = let f = seat_fields_send s in search (view_send) depth 20

  put_send : IsSend T → IsSend (put.the_row T)
  put_send s = search (heap.crosses, view_send, sendable) depth 60 fits 100000

  trail_send : IsSend T → IsSend (trail.the_row (put.the_row T))
  trail_send s = let p = put_send s in trails.send-Trail (put.the_row T) (search (heap.crosses, sendable) depth 60 fits 100000)

  carrier_fields_send : IsSend T → IsSend (carrier_inside.the_row T)
  carrier_fields_send s =
      declared_send (carrier_inside.the_type T) (search (places.the_send, sendable) depth 20, (as_row_send (trail.the_field (put.the_row T)) (trail_send s), tt))

  pub carrier_send : IsSend T → IsSend (carrier.the_row T)
  carrier_send s = let f = carrier_fields_send s in search (view_send) depth 20

pub bench_send : IsSend bench.the_row
bench_send =
    let s = seat_send task.the_row tasks.the_send in let c = carrier_send _ (heap.Box-send parcel.the_row parcels.the_send) in
    declared_send bench.the_type (search sendable, (search sendable depth 20, (search sendable depth 20, (search (works.the_send, sendable) depth 20, tt))))

pub share_send : IsSend shares.the_row
share_send = declared_send shares.the_type (search (heap.Vec-send, tasks.the_send, sendable) depth 20, (search (alone.the_send, sendable) depth 20, tt))
