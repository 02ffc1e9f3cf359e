-- What a host's parts do to the host: what its processes want is done at once, after each act.
use Rattle.std.specs.Prelude.{ℕ, slice_set}
use Rattle.host_calls.specs.Parts.{PartsRecord}
use Rattle.host_wants.specs.Wanted.{Wanted}
use Rattle.host_link.specs.Net.{Net}
use Rattle.guest_process.specs.declared.process.Process.{Process}
use Rattle.host_state.specs.HostRecord.{HostRecord}
use Rattle.host_link.specs.Link.{LinkState}
use Rattle.host_link.specs.Sending.{Wire}
use Rattle.host_link.specs.Wants.{does_wants}

abbrev pub with_link : LinkState → HostRecord → HostRecord
with_link link host = record host { link = link }

abbrev pub with_parts : PartsRecord → HostRecord → HostRecord
with_parts parts host = record host { parts = parts }

abbrev pub with_process : ℕ → Process → HostRecord → HostRecord
with_process p process host = record host { processes = slice_set host.processes p process }

-- the link, and the generator with what is wanted
abbrev pub wire_of : HostRecord → Wire
wire_of host = (host.link, host.parts.shared.outlet)

abbrev pub with_outlet : Wanted → PartsRecord → PartsRecord
with_outlet outlet parts = record parts { shared = record parts.shared { outlet = outlet } }

abbrev pub with_wire : Wire → HostRecord → HostRecord
with_wire (link, outlet) host = record host { link = link; parts = with_outlet outlet host.parts }

abbrev pub on_wire : (Wire → Wire) → HostRecord → HostRecord
on_wire act host = with_wire (act (wire_of host)) host

-- the host's parts have acted: what they want is done, in order
unfoldable pub does_wanted : Net → HostRecord → HostRecord
does_wanted net host = on_wire (does_wants net host.row.address) host
