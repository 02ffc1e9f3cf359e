-- The epolls of a process, each by its number.
use Rattle.std.specs.Prelude.{ℕ, List, [], map, Option, Some, None}
use Rattle.host_fds.specs.declared.epoll.Entry.{Entry}
use Rattle.host_fds.specs.declared.epoll.Seen.{Seen}
use Rattle.host_fds.specs.declared.epoll.Watch.{Watch}
use Rattle.host_fds.specs.Epoll as epoll
use Rattle.host_files.specs.Slots.{at, free_place, added, without, acts}

abbrev pub EpollsState : Type 0
EpollsState = List (Option (List Watch))

-- epoll_create(2): a new one, without entries
abbrev pub next_epoll : EpollsState → ℕ
next_epoll s = free_place s

abbrev pub no_entries : List Watch
no_entries = []

abbrev pub with_epoll : EpollsState → EpollsState
with_epoll s = added no_entries s

abbrev pub epoll_at : ℕ → EpollsState → Option (List Watch)
epoll_at place s = at place s

-- epoll_ctl(2): an entry is added, or changed, and then was not reported
abbrev pub after_put : Watch → List Watch → Option (List Watch)
after_put w entries = Some (epoll.with_watch w entries)

abbrev pub entry_put : Watch → ℕ → EpollsState → EpollsState
entry_put w place s = acts (after_put w) place s

-- an entry is deleted
abbrev pub after_removal : ℕ → List Watch → Option (List Watch)
after_removal fd entries = Some (epoll.without fd entries)

abbrev pub entry_removed : ℕ → ℕ → EpollsState → EpollsState
entry_removed fd place s = acts (after_removal fd) place s

-- a descriptor is closed: no epoll of the process has an entry of it
abbrev pub forgets : ℕ → Option (List Watch) → Option (List Watch)
forgets fd None = None
forgets fd (Some entries) = Some (epoll.without fd entries)

abbrev pub forgotten : ℕ → EpollsState → EpollsState
forgotten fd s = map (forgets fd) s

-- epoll_wait(2): what is told where so many entries may be, of what is seen of the descriptors
abbrev pub told_by : ℕ → List Seen → Option (List Watch) → List Entry
told_by room seen None = []
told_by room seen (Some entries) = epoll.told room seen entries

abbrev pub after_report : ℕ → List Seen → List Watch → Option (List Watch)
after_report room seen entries = Some (epoll.reported room seen entries)

abbrev pub entries_reported : ℕ → List Seen → ℕ → EpollsState → EpollsState
entries_reported room seen place s = acts (after_report room seen) place s

abbrev pub epoll_ended : ℕ → EpollsState → EpollsState
epoll_ended place s = without place s
