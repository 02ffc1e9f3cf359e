-- what a row of the calls leaves: memories and pipes of bytes, and sockets and packets that fit
use Rattle.std.proofs.Common.{IfSome, List, None, Option, Result, Some, [], drop, false, length, nat_lt, not, slice_get, take, ℕ, ◌==◌, ◌||◌, ◌∷◌}
use Rattle.std.specs.List.{AllByRecursion}
use Rattle.std.specs.Option.{option_flatten}
use Rattle.file_calls.specs.Scene.{Local}
use Rattle.guest_args.specs.Address.{address_size, address_span, family_of, inet, sockaddr_of}
use Rattle.guest_args.specs.Span.{can_read, span}
use Rattle.guest_mem.specs.Memory.{Memory}
use Rattle.host_calls.specs.Parts.{Scene}
use Rattle.call_parts.specs.Sockets.{address, address_bytes, given_address, inet_address}
use Rattle.host_calls.specs.Sockets.{bind_asked, is_bound}
use Rattle.call_parts.specs.declared.sockets.SocketNumber.{SocketNumber}
use Rattle.host_fds.specs.Pipe.{count_taken, PipeState}
use Rattle.host_files.specs.Files.{FilesState, after_read, after_shut, after_write, gives, pipe_at, pipe_gives, pipe_read, pipe_shut, pipe_written}
use Rattle.host_files.specs.Slots.{acts, added, after, at, free_place}
use Rattle.host_sockets.specs.Sockets.{SocketsRecord}
use Rattle.pcap_text.specs.Laws.{IsByte}
use Rattle.pcap_text.specs.Packets.{FitsAddr}
use Rattle.run_fits.proofs.Bytes.{all_append, all_drop, all_set, all_take, got, half_small, word_small}
use Rattle.run_fits.proofs.Memories.{span_are}
use Rattle.run_fits.proofs.Steps.{Gives, given, knows, tries}
use Rattle.run_fits.specs.Bytes.{AreBytes, HasBytes}
use Rattle.run_fits.specs.Packets.{WantsFit}
use Rattle.run_fits.specs.Parts.{FilesFit, PipeFits}
use Rattle.run_fits.specs.Sockets.{MayFit, SocketsFit}
use Rattle.sim_base.specs.Refusals.{or_refuse, refuse_if, ◌>>=◌}
use Rattle.sim_base.specs.declared.errno.Errno.TheVariants.{Eafnosupport, Efault, Einval}
use Rattle.tcp_laws.proofs.Tests.{by_test}
use Rattle.host_wants.specs.declared.error.Refusal.{Refusal}
use Rattle.host_wants.specs.declared.error.Refusal.TheVariants.{Errno}
use Rattle.host_fds.specs.declared.pipe.End.{End}
use Rattle.host_fds.specs.declared.pipe.End.TheVariants.{Reading, Writing}

-- of a process, and of what it shares with the others of its host
abbrev pub LocalFits : Local → Type 0
LocalFits s = HasBytes s.0.memory × FilesFit s.1.files × WantsFit s.1.outlet

abbrev pub SceneFits : Scene → Type 0
SceneFits s = HasBytes s.task.memory × FilesFit s.shared.files × WantsFit s.shared.outlet × SocketsFit s.sockets

abbrev pub LeavesLocal : {A : Type 0} → A × Local → Type 0
LeavesLocal b = LocalFits b.1

abbrev pub LeavesScene : {A : Type 0} → A × Scene → Type 0
LeavesScene b = SceneFits b.1

-- ---- pipes

pub slot_at : (k : ℕ) (slots : List (Option PipeState)) → AllByRecursion PipeFits slots → PipeFits (at k slots)
slot_at k slots h = flat (slice_get slots k) (got PipeFits slots k h)
  where
    flat : (found : Option (Option PipeState)) → IfSome found PipeFits → PipeFits (option_flatten found)
    flat None h = tt
    flat (Some slot) h = h

pub pipes_added : (p : PipeState) (slots : List (Option PipeState)) → AreBytes p.bytes → AllByRecursion PipeFits slots → AllByRecursion PipeFits (added p slots)
pipes_added p slots are h =
    by_test (λ (xs : List (Option PipeState)). AllByRecursion PipeFits xs) (nat_lt (free_place slots) (length slots)) _ _
    (λ e. all_set PipeFits slots (free_place slots) (Some p) h are)
    (λ e. all_append PipeFits slots (Some p ∷ []) h (are, tt))

acted_slot : (act : PipeState → Option PipeState) (slot : Option PipeState) → ((p : PipeState) → AreBytes p.bytes → PipeFits (act p)) → PipeFits slot → PipeFits (after act slot)
acted_slot act None keeps h = tt
acted_slot act (Some p) keeps h = keeps p h

pub pipes_acted : (act : PipeState → Option PipeState) (k : ℕ) (slots : List (Option PipeState)) → ((p : PipeState) → AreBytes p.bytes → PipeFits (act p)) → AllByRecursion PipeFits slots → AllByRecursion PipeFits (acts act k slots)
pipes_acted act k slots keeps h = all_set PipeFits slots k (after act (at k slots)) h (acted_slot act (at k slots) keeps (slot_at k slots h))

pub pipe_reads : (count k : ℕ) (files : FilesState) → FilesFit files → FilesFit (pipe_read count k files)
pipe_reads count k files h = pipes_acted (after_read count) k files.pipes (λ p are. all_drop IsByte count p.bytes are) h

pub pipe_writes : (bytes : List ℕ) (k : ℕ) (files : FilesState) → AreBytes bytes → FilesFit files → FilesFit (pipe_written bytes k files)
pipe_writes bytes k files are h =
    pipes_acted (after_write bytes) k files.pipes
    (λ p there. all_append IsByte p.bytes (take (count_taken p bytes) bytes) there (all_take IsByte (count_taken p bytes) bytes are)) h

left_open : (end : End) (p : PipeState) → AreBytes p.bytes → PipeFits (after_shut end p)
left_open Reading p are = by_test PipeFits (false || p.has_writer) _ _ (λ e. are) (λ e. tt)
left_open Writing p are = by_test PipeFits (p.has_reader || false) _ _ (λ e. are) (λ e. tt)

pub pipe_shuts : (end : End) (k : ℕ) (files : FilesState) → FilesFit files → FilesFit (pipe_shut end k files)
pipe_shuts end k files h = pipes_acted (after_shut end) k files.pipes (λ p are. left_open end p are) h

pub gives_are : (count k : ℕ) (files : FilesState) → FilesFit files → AreBytes (pipe_gives count k files)
gives_are count k files h = given_of (pipe_at k files) (slot_at k files.pipes h)
  where
    given_of : (slot : Option PipeState) → PipeFits slot → AreBytes (gives count slot)
    given_of None h = tt
    given_of (Some p) h = all_take IsByte count p.bytes h

-- ---- bytes that a guest hands in, and gets

pub spans : {B : Type 0} (P : B → Type 0) (size at : ℕ) (memory : Memory) (why : Refusal) (next : List ℕ → Result B Refusal) → HasBytes memory → ((bytes : List ℕ) → AreBytes bytes → Gives P (next bytes)) → Gives P (or_refuse (span size at memory) why >>= next)
spans P size at memory why next h each =
    knows AreBytes P (or_refuse (span size at memory) why) next (given AreBytes (span size at memory) why (span_are size at memory h)) each

-- an address that is handed in
bytes_handed : (at size : ℕ) (memory : Memory) → HasBytes memory → Gives AreBytes (address_bytes at size memory)
bytes_handed at size memory h =
    tries AreBytes (refuse_if (not (can_read (address_span size) at memory)) (Errno Efault)) _
    (tries AreBytes (refuse_if (nat_lt size address_size) (Errno Einval)) _
    (given AreBytes (span address_size at memory) (Errno Efault) (span_are address_size at memory h)))

sockaddr_fits : (bytes : List ℕ) → AreBytes bytes → FitsAddr (sockaddr_of bytes)
sockaddr_fits bytes are = (
  word_small (take 4 (drop 4 bytes)) (all_take IsByte 4 (drop 4 bytes) (all_drop IsByte 4 bytes are)),
  half_small (take 2 (drop 2 bytes)) (all_take IsByte 2 (drop 2 bytes) (all_drop IsByte 2 bytes are)),
)

inet_fits : (bytes : List ℕ) → AreBytes bytes → Gives FitsAddr (inet_address bytes)
inet_fits bytes are = tries FitsAddr (refuse_if (not (family_of bytes == inet)) (Errno Eafnosupport)) _ (sockaddr_fits bytes are)

pub address_fits : (at size : ℕ) (memory : Memory) → HasBytes memory → Gives FitsAddr (address at size memory)
address_fits at size memory h =
    knows AreBytes FitsAddr (address_bytes at size memory) _ (bytes_handed at size memory h) (λ bytes are. inet_fits bytes are)

pub bind_end_fits : (socket : SocketNumber) (at size : ℕ) (memory : Memory) (t : SocketsRecord) → HasBytes memory → Gives FitsAddr (bind_asked socket at size memory t)
bind_end_fits socket at size memory t h =
    knows AreBytes FitsAddr (address_bytes at size memory) _ (bytes_handed at size memory h)
    (λ bytes are. tries FitsAddr (refuse_if (is_bound socket t) (Errno Einval)) _ (inet_fits bytes are))

pub given_address_fits : (at size : ℕ) (memory : Memory) → HasBytes memory → Gives MayFit (given_address at size memory)
given_address_fits at size memory h =
    by_test (Gives MayFit) (at == 0) _ _
    (λ e. tt)
    (λ e. knows FitsAddr MayFit (address at size memory) _ (address_fits at size memory h) (λ to fits. fits))
