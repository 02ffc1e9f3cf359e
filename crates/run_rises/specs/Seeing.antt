-- what a wait for an epoll goes by: of each entry the bits that hold for the object that its descriptor names, and how often each of them
-- rose over the object's whole history
use Rattle.std.specs.Prelude.{ℕ, ◌==◌, ◌&&◌, Bool, not, List, [], map, Option, Some, None, Result, Ok, Err}
use Rattle.sim_base.specs.declared.address.Ip.{Ip}
use Rattle.sim_base.specs.declared.time.Time.{Time}
use Rattle.host_fds.specs.declared.epoll.Seen.{Seen}
use Rattle.host_fds.specs.declared.epoll.Watch.{Watch}
use Rattle.host_fds.specs.Epoll as epoll
use Rattle.host_fds.specs.Rises.{no_rises}
use Rattle.host_files.specs.declared.file.Object.{Object}
use Rattle.host_wants.specs.declared.error.Refusal.{Refusal}
use Rattle.file_calls.specs.declared.descriptors.Descriptor.{Descriptor}
use Rattle.file_calls.specs.Descriptors.{descriptor}
use Rattle.host_calls.specs.Parts.{Scene}
use Rattle.host_calls.specs.Ready.{bits_seen}
use Rattle.run_rises.specs.Histories.{HostHistory}
use Rattle.run_rises.specs.Rises.{rises_counted, counts}

module _ (hosts : List Ip) (own : Ip) (history : HostHistory) (now : Time) where
  abbrev pub counted_by : ℕ → Result Descriptor Refusal → Scene → Seen
  counted_by fd (Err refusal) s = record { fd = fd; bits = 0; rises = no_rises }
  counted_by fd (Ok d) s = record {
    fd = fd;
    bits = bits_seen now d.file.object s.shared.files s.sockets;
    rises = counts (rises_counted hosts own history now d.file.object);
  }

  abbrev pub counted : Scene → ℕ → Seen
  counted s fd = counted_by fd (descriptor fd s.task s.shared.files) s

  abbrev pub all_counted : Scene → Option (List Watch) → List Seen
  all_counted s None = []
  all_counted s (Some entries) = map (λ (w : Watch). counted s w.fd) entries

  -- whether an entry is due by that
  abbrev pub is_due : Scene → Watch → Bool
  is_due s w = epoll.is_due w (counted s w.fd)

  -- whether one that is told by edges is due, where it was told as an earlier history had left its object: it asks for a bit that
  -- holds, and rose since then
  abbrev pub is_due_since : Scene → Watch → HostHistory → Time → Object → Bool
  is_due_since s w before moment object =
      let bits = epoll.told_bits w (counted s w.fd) in
      not (bits == 0) && epoll.has_risen bits (counts (rises_counted hosts own before moment object)) (counts (rises_counted hosts own history now object))
