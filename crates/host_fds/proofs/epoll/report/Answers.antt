use Rattle.std.proofs.Common.{◌≡◌, ◌+◌, ◌-◌, ◌<◌, ◌≤◌, length, get_or, refl, sym, ◌∙◌, arith}
use Rattle.host_fds.proofs.Reports.{hit_is, step_miss, unchanged, miss_due, miss_full, no_watch, no_seen, ends_count, ends_told, ends_left}
use Rattle.host_fds.proofs.epoll.report.Goals as goal
use Rattle.host_fds.proofs.epoll.report.Goals.{then-found-into+then-is_due, else-found-into, else-found-into-via-then-found-into+else-is_due, else-found-into-via-else-found-into}

pub loop-place-preserved : goal.loop-place-preserved
loop-place-preserved c =
    let room = length c.args.into.now in
    let seen = c.args.seen.now in
    let first = c.args.entries.now in
    let before = c.args.into.now in
    let place = c.loop-place.place in
    let found = c.loop-place.found in
    let ws = c.loop-place.entries in
    let into = c.loop-place.into in
    let h = c.loop-place.invariant in
    let in_seen : place < length seen = omega arith in
    let in_ws : place < length ws = omega arith in
    let size : length into ≡ room = omega arith in
    elim c.if-found-into.branch [
      | then-found-into+then-is_due w ↦
          let more : found < room = omega arith in
          hit_is room seen first before place found ws into _ _ _ _ h in_seen in_ws refl refl _ _ _ _ _ more size (sym w.is_due.ensures ∙ w.if-is_due.true)
          w.found-is w.entries-is w.into-is w.after_report.ensures w.entry.ensures
      | else-found-into w ↦
          unchanged room seen first before (place + 1) found _ ws _ into _
          (elim w.else-found-into.branch [
            | else-found-into-via-then-found-into+else-is_due v ↦
                step_miss room seen first before place found ws into (get_or ws place no_watch) no_watch (get_or seen place no_seen) no_seen h in_seen in_ws refl refl
                (miss_due (room - found) (get_or ws place no_watch) (get_or seen place no_seen) (sym v.is_due.ensures ∙ v.if-is_due.false))
            | else-found-into-via-else-found-into v ↦
                let full : room - found ≡ 0 = omega arith in
                step_miss room seen first before place found ws into (get_or ws place no_watch) no_watch (get_or seen place no_seen) no_seen h in_seen in_ws refl refl (miss_full (room - found) (get_or ws place no_watch) (get_or seen place no_seen) full)
          ])
          w.found-is w.entries-is w.into-is
    ]

pub returns-clause-count : goal.returns-clause-count
returns-clause-count c =
    let all_seen : length c.args.seen.now ≤ c.loop-place.place = omega arith in
    let size : length c.loop-place.into ≡ length c.args.into.now = omega arith in
    ends_count (length c.args.into.now) c.args.seen.now c.args.entries.now c.args.into.now c.loop-place.place c.loop-place.found c.loop-place.entries c.loop-place.into c.loop-place.invariant all_seen size

pub returns-clause-told : goal.returns-clause-told
returns-clause-told c =
    let all_seen : length c.args.seen.now ≤ c.loop-place.place = omega arith in
    let size : length c.loop-place.into ≡ length c.args.into.now = omega arith in
    ends_told (length c.args.into.now) c.args.seen.now c.args.entries.now c.args.into.now c.loop-place.place c.loop-place.found c.loop-place.entries c.loop-place.into c.loop-place.invariant all_seen size

pub returns-clause-left : goal.returns-clause-left
returns-clause-left c =
    let all_seen : length c.args.seen.now ≤ c.loop-place.place = omega arith in
    let size : length c.loop-place.into ≡ length c.args.into.now = omega arith in
    ends_left (length c.args.into.now) c.args.seen.now c.args.entries.now c.args.into.now c.loop-place.place c.loop-place.found c.loop-place.entries c.loop-place.into c.loop-place.invariant all_seen size
