-- what events leave of a host: a link and parts that fit, beside its row
use Rattle.std.proofs.Common.{refl, ◌≡◌, Bool, IfSome, None, Option, Some, false, option_and_then, slice_get, subst, true, ℕ}
use Rattle.elf_load.specs.ProgramImage.{ProgramImage}
use Rattle.guest_process.specs.Start.{texts_fit}
use Rattle.guest_process.specs.declared.start.Started.{Started}
use Rattle.host_rows.specs.declared.row.ProcessRow.{ProcessRow}
use Rattle.host_rows.specs.declared.row.Row.{Row}
use Rattle.pcap_text.specs.Laws.{IsWhole}
use Rattle.run_fits.proofs.Bytes.{all_set, got}
use Rattle.run_fits.proofs.Lanes.{left_whole, pushed_whole}
use Rattle.run_fits.proofs.Links.{EventFits, LinkFits, WhatFits, drop_all_fit, logs_fit, makes_fit, makes_if_fit, up_fits, wants_done}
use Rattle.run_fits.proofs.Machine.{turn_kept}
use Rattle.run_fits.proofs.Starts.{start_in}
use Rattle.run_fits.proofs.Table.{alarmed_fits, arrival_fits, call_fits, ended_fits, starts_fit}
use Rattle.run_fits.specs.Bytes.{HasBytes}
use Rattle.run_fits.specs.Given.{ImageHasBytes, NetHasBytes, ProcessHasBytes, RowFits}
use Rattle.run_fits.specs.Parts.{PartsFit, TaskFits}
use Rattle.sim_base.specs.declared.act.Act.TheVariants.{FullDown}
use Rattle.sim_base.specs.declared.event.Event.{Event}
use Rattle.sim_base.specs.declared.event.What.TheVariants as what
use Rattle.sim_base.specs.declared.packet.Packet.{Packet}
use Rattle.net_iface.specs.Lane.{released}
use Rattle.rv32_machine.specs.Table.{state}
use Rattle.file_calls.specs.declared.task.Task.{Task}
use Rattle.host_calls.specs.Events.{arrives}
use Rattle.host_calls.specs.Parts.{PartsRecord}
use Rattle.host_wants.specs.Wanted.{without_wants}
use Rattle.host_link.specs.Net.{Net}
use Rattle.host_link.specs.Wants.{does_wants}
use Rattle.host_link.specs.Lanes.{with_down}
use Rattle.host_link.specs.Link.{later, logs}
use Rattle.host_link.specs.Sending.{up_comes}
use Rattle.host_state.specs.Arriving.{is_handed_over, comes_to_router, down_comes}
use Rattle.host_state.specs.Fire.{ready, has_acted, ready_image, ready_row}
use Rattle.host_state.specs.Host.{with_link, with_parts, on_wire, wire_of, does_wanted}
use Rattle.host_state.specs.HostRecord.{HostRecord}
use Rattle.host_state.specs.Slice.{with_task}
use Rattle.host_laws.proofs.Walks.{HandsKeep, PartsAct, StepsKeep, router_keeps, down_keeps, event_keeps}
use Rattle.host_laws.proofs.Walks.PartsAct.{Calls, Begins, Ends, Rings, Turns, LetsGo}

abbrev pub HostFits : HostRecord → Type 0
HostFits h = LinkFits h.link × PartsFit h.parts × RowFits h.row

module _ (net : Net) (lent : NetHasBytes net) where
  abbrev H : HostRecord → Type 0
  H h = HostFits h

  doing_wanted : (h : HostRecord) → H h → H (does_wanted net h)
  unfolding does_wanted does_wants
  doing_wanted h k =
      let out = h.parts.shared.outlet in
      let done = wants_done net h.row.address out.wants (h.link, without_wants out) k.1.wants (k.0, tt) in
      (done.0, record { tasks = k.1.tasks; files = k.1.files; wants = done.1; sockets = k.1.sockets }, k.2)

  -- ---- packets

  handed : (packet : Packet) (h : HostRecord) → IsWhole packet → H h → H (is_handed_over net packet h)
  unfolding is_handed_over
  handed packet h whole k =
      let r = arrives h.link.time packet h.parts in
      doing_wanted (with_parts r.1 (with_link (logs r.0 packet h.link) h)) (logs_fit h.link r.0 packet whole k.0, arrival_fits h.link.time packet h.parts whole k.1, k.2)

  hands : HandsKeep net IsWhole H
  hands = record {
    handed = λ packet h whole k. handed packet h whole k;
    full = λ packet h whole k. (logs_fit h.link FullDown packet whole k.0, k.1, k.2);
    next = λ due h k. (makes_if_fit h.link due what.Down tt k.0, k.1, k.2);
  }

  coming_to_router : (packet : Packet) (h : HostRecord) → IsWhole packet → H h → H (comes_to_router net packet h)
  coming_to_router packet h whole k =
      let put = pushed_whole h.link.time packet h.link.down whole k.0.1 in
      router_keeps net IsWhole H hands packet h (put.0, ((k.0.0, put.1, k.0.2, k.0.3), k.1, k.2))

  coming_down : (h : HostRecord) → H h → H (down_comes net h)
  coming_down h k =
      let r = released h.link.time h.link.down in
      let left = left_whole h.link.time h.link.down k.0.1 in
      down_keeps net IsWhole H hands h
      (left.0, (drop_all_fit net r.dropped (with_down r.lane h.link) left.1 (k.0.0, left.2, k.0.2, k.0.3), k.1, k.2))

  coming_up : (h : HostRecord) → H h → H (on_wire (up_comes net) h)
  coming_up h k =
      let up = up_fits net (wire_of h) (k.0, k.1.wants) in
      (up.0, record { tasks = k.1.tasks; files = k.1.files; wants = up.1; sockets = k.1.sockets }, k.2)

  -- ---- its parts

  -- a start: of the image and the texts of its row
  image_by : (process : ProcessRow) (image : ProgramImage) (b : Bool) → texts_fit process.arguments process.environment ≡ b → ProcessHasBytes process → ImageHasBytes image → IfSome (ready_image process image) (λ s. HasBytes s.memory)
  image_by process image true e texts are = rw e (start_in image process.arguments process.environment are texts.0 texts.1)
  image_by process image false e texts are = rw e tt

  ready_by : (process : ProcessRow) (found : Option ProgramImage) → ProcessHasBytes process → IfSome found ImageHasBytes → IfSome (option_and_then (ready_image process) found) (λ s. HasBytes s.memory)
  ready_by process None texts image = tt
  ready_by process (Some image) texts are = image_by process image (texts_fit process.arguments process.environment) refl texts are

  ready_row_fits : (found : Option ProcessRow) → IfSome found ProcessHasBytes → IfSome (option_and_then (ready_row net) found) (λ s. HasBytes s.memory)
  ready_row_fits None texts = tt
  ready_row_fits (Some process) texts =
      ready_by process (slice_get net.images process.image) texts (got ImageHasBytes net.images process.image lent.images)

  ready_fits : (row : Row) (p : ℕ) → RowFits row → IfSome (ready net row p) (λ s. HasBytes s.memory)
  unfolding ready
  ready_fits row p fits = ready_row_fits (slice_get row.processes p) (got ProcessHasBytes row.processes p fits.1)

  -- another process in its place
  tasked : (p : ℕ) (slot : Option Task) (h : HostRecord) → TaskFits slot → PartsFit h.parts → PartsFit (with_task p slot h.parts)
  tasked p slot h fits k = record { tasks = all_set TaskFits h.parts.tasks p slot k.tasks fits; files = k.files; wants = k.wants; sockets = k.sockets }

  parts_act : (h : HostRecord) (parts : PartsRecord) → PartsAct net h parts → PartsFit h.parts → RowFits h.row → PartsFit parts
  parts_act h parts (Calls p number arguments) k row = call_fits net.known h.link.time p number arguments h.parts lent.hosts k
  parts_act h parts (Begins p s is) k row =
      starts_fit p s.memory h.parts (subst (λ (found : Option Started). IfSome found (λ s. HasBytes s.memory)) is (ready_fits h.row p row)) k
  parts_act h parts (Ends p) k row = ended_fits h.link.time p h.parts k
  parts_act h parts (Rings target serial) k row = alarmed_fits h.link.time target serial h.parts k
  parts_act h parts (Turns p cpu task there) k row =
      let fits = subst (λ (found : Option (Option Task)). IfSome found TaskFits) there (got TaskFits h.parts.tasks p k.tasks) in
      tasked p _ h (turn_kept net.budget (state cpu task.memory) fits) k
  parts_act h parts (LetsGo p) k row = tasked p None h tt k

  steps : StepsKeep net WhatFits H
  steps = record {
    acted = λ h parts act k. (k.0, parts_act h parts act k.1 k.2, k.2);
    wanted = λ h k. doing_wanted h k;
    beside = λ processes h k. k;
    pauses = λ nanos p h k. (makes_fit h.link (later h.link.time nanos) (what.Go p) tt k.0, k.1, k.2);
    up = λ h k. coming_up h k;
    down = λ h fits k. coming_down h k;
    loops = λ packet h whole k. handed packet h whole k;
    comes = λ packet h whole small k. handed packet h whole k;
    routed = λ packet h whole small k. coming_to_router packet h whole k;
  }

  -- an event fires
  pub acted_fits : (e : Event) (h : HostRecord) → EventFits e → H h → H (has_acted net e h)
  acted_fits e h fits k = event_keeps net WhatFits H steps e h fits k
