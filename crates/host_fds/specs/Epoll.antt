-- An epoll, as epoll(7) has it: what it watches, in the order of their descriptors, and what a wait tells of it.
use Rattle.std.specs.Prelude.{ℕ, ◌+◌, ◌-◌, ◌==◌, ◌&&◌, ◌||◌, Bool, true, not, List, [], ◌∷◌, ◌++◌, take, drop, filter, Option, Some, None, is_some, bit_and, bit_or, nat_lt, if◌then◌else◌}
use Rattle.std.specs.List.{position_or_len, list_any}
use Rattle.sim_base.specs.Poll.{pollin, pollout, pollerr, pollhup, pollrdhup}
use Rattle.host_fds.specs.declared.epoll.Entry.{Entry}
use Rattle.host_fds.specs.declared.epoll.Seen.{Seen}
use Rattle.host_fds.specs.declared.epoll.Watch.{Watch}
use Rattle.host_fds.specs.declared.rises.Rises.{Rises}
use Rattle.host_fds.specs.Rises.{has_bit}

-- EPOLLONESHOT and EPOLLET
abbrev pub once : ℕ
once = 0x40000000

abbrev pub edge : ℕ
edge = 0x80000000

abbrev pub names : ℕ → Watch → Bool
names fd w = w.fd == fd

abbrev pub watches : ℕ → List Watch → Bool
watches fd entries = list_any (names fd) entries

-- without the entry of a descriptor
abbrev pub without : ℕ → List Watch → List Watch
without fd entries = filter (λ w. not (names fd w)) entries

-- with an entry, which stands before the first of a greater descriptor
abbrev pub is_behind : ℕ → Watch → Bool
is_behind fd w = nat_lt fd w.fd

abbrev pub put_at : ℕ → Watch → List Watch → List Watch
put_at place w entries = take place entries ++ w ∷ drop place entries

abbrev pub put_in : Watch → List Watch → List Watch
put_in w entries = put_at (position_or_len (is_behind w.fd) entries) w entries

abbrev pub with_watch : Watch → List Watch → List Watch
with_watch w entries = put_in w (without w.fd entries)

-- of some bits those that an entry asks for; POLLERR and POLLHUP always count
abbrev pub asked_of : Watch → ℕ → ℕ
asked_of w bits = bit_and bits (bit_or w.events (pollerr + pollhup))

abbrev pub asks_for : Watch → ℕ → Bool
asks_for w bits = not (asked_of w bits == 0)

-- of the bits that hold those that are told
abbrev pub told_bits : Watch → Seen → ℕ
told_bits w s = asked_of w s.bits

-- a bit that is told, and came to hold since
abbrev pub risen : ℕ → ℕ → ℕ → ℕ → Bool
risen bit bits before now = has_bit bit bits && nat_lt before now

abbrev pub has_risen : ℕ → Rises → Rises → Bool
has_risen bits before now =
    risen pollin bits before.input now.input || (risen pollout bits before.output now.output || (risen pollerr bits before.error now.error
    || (risen pollhup bits before.hangup now.hangup || risen pollrdhup bits before.peer_end now.peer_end)))

-- an entry is edge-triggered or level-triggered. The first report of one that was added or changed needs no rise, and one that is told
-- once is silent after it
abbrev pub is_news : Watch → Rises → Seen → Bool
is_news w before s = not (has_bit once w.events) && (not (has_bit edge w.events) || has_risen (told_bits w s) before s.rises)

abbrev pub is_news_since : Option Rises → Watch → Seen → Bool
is_news_since None w s = true
is_news_since (Some before) w s = is_news w before s

abbrev pub is_due : Watch → Seen → Bool
is_due w s = not (told_bits w s == 0) && is_news_since w.reported w s

abbrev pub entry_of : Watch → Seen → Entry
entry_of w s = record { events = told_bits w s; «data» = w.«data» }

-- a report marks the rises of all bits
abbrev pub report_of : Watch → Seen → Watch
report_of w s = record w { reported = Some s.rises }

-- the entries that are told where so many may be, and what that leaves: the first that are due
abbrev pub is_told : ℕ → Watch → Seen → Bool
is_told room w s = nat_lt 0 room && is_due w s

unfoldable pub told : ℕ → List Seen → List Watch → List Entry
told room [] entries = []
told room (s ∷ seen) [] = []
told room (s ∷ seen) (w ∷ entries) = if is_told room w s then entry_of w s ∷ told (room - 1) seen entries else told room seen entries

unfoldable pub reported : ℕ → List Seen → List Watch → List Watch
reported room [] entries = entries
reported room (s ∷ seen) [] = []
reported room (s ∷ seen) (w ∷ entries) = if is_told room w s then report_of w s ∷ reported (room - 1) seen entries else w ∷ reported room seen entries
