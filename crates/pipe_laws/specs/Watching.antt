-- Acts on an epoll, one after another, and the order of its entries.
use Rattle.std.specs.Prelude.{ℕ, ◌<◌, List, [], ◌∷◌}
use Rattle.host_fds.specs.declared.epoll.Seen.{Seen}
use Rattle.host_fds.specs.declared.epoll.Watch.{Watch}
use Rattle.host_fds.specs.Epoll.{with_watch, without, reported}

-- an entry is put, that of a descriptor is dropped, or the first that are due are told
pub data EpollAct : Type 0 where
  Puts : Watch → EpollAct
  Drops : ℕ → EpollAct
  Tells : ℕ → List Seen → EpollAct

abbrev pub epoll_after : EpollAct → List Watch → List Watch
epoll_after (Puts w) entries = with_watch w entries
epoll_after (Drops fd) entries = without fd entries
epoll_after (Tells room seen) entries = reported room seen entries

abbrev pub epoll_after_all : List EpollAct → List Watch → List Watch
epoll_after_all [] entries = entries
epoll_after_all (act ∷ acts) entries = epoll_after_all acts (epoll_after act entries)

-- all entries are of descriptors above one
abbrev pub Above : ℕ → List Watch → Type 0
Above fd [] = Unit {0}
Above fd (w ∷ entries) = (fd < w.fd) × Above fd entries

-- each is of a lower descriptor than those behind it
abbrev pub Rise : List Watch → Type 0
Rise [] = Unit {0}
Rise (w ∷ entries) = Above w.fd entries × Rise entries
