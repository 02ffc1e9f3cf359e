-- Lines that come to the captures of hosts, one behind another.
use Rattle.std.proofs.Common.{◌≡◌, ◌≢◌, ℕ, zero, suc, ◌+◌, ◌<◌, ◌≤◌, Bool, true, false, ◌&&◌, List, [], ◌∷◌, ◌++◌, length, map, take, get_or, slice_get, Option, Some, None, inl, inr, refl, sym, ap, subst, ◌∙◌, arith, append-nil, append_assoc, eq-eqb, ne_eqb}
use Rattle.std.specs.Prelude.{flat_map, replicate, ◌||◌, ◌⊎◌, if◌then◌else◌}
use Rattle.std.specs.List.{filter, list_any}
use Rattle.std.proofs.Math.ListN.{set}
use Rattle.std.proofs.lemmas.Grind.{flat_map-append}
use Rattle.std.proofs.lemmas.List.{length-map}
use Rattle.std.proofs.lemmas.Option.{slice_get_read}
use Rattle.std.proofs.lemmas.List.Elements.{filter-append}
use Rattle.sim_base.specs.declared.address.Ip.{Ip}
use Rattle.run_files.specs.Captured.{captured_by, captured, captured_from, host_captures, files_by}
use Rattle.run_files.specs.inside.Captured.{line_behind, line_by, with_line, has_captures}
use Rattle.run_files.specs.Captures.{is_at, is_on_eth0, is_on_lo, is_there, eth0_of, lo_of, line_record, records_of}
use Rattle.run_files.specs.Files.{Put}
use Rattle.run_files.specs.Grown.{with_bytes}
use Rattle.host_link.specs.Logs.{kept_lines}
use Rattle.run_files.specs.Listed.{HostNames, said, by_host}
use Rattle.run_files.specs.declared.capture.Captured.{Captured}
use Rattle.run_files.specs.declared.listed.HostListing.{HostListing}
use Rattle.host_link.specs.declared.line.Line.{Line}
use Rattle.host_link.specs.declared.line.Logged.{Logged}
use Rattle.run_files.proofs.Listings.{with_bytes_append}

-- ---- one host

more_records : (size : ℕ) (p : Line → Bool) (ls : List Line) (l : Line) → records_of size (filter p (ls ++ l ∷ [])) ≡ line_behind (p l) size l (records_of size (filter p ls))
more_records size p ls l =
    ap (flat_map (line_record size)) (filter-append p ls (l ∷ [])) ∙ flat_map-append (line_record size) (filter p ls) (filter p (l ∷ [])) ∙ last (p l) where
      records : List ℕ
      records = records_of size (filter p ls)

      last : (b : Bool) → records ++ flat_map (line_record size) (if b then l ∷ [] else []) ≡ line_behind b size l records
      last true = ap (λ (r : List ℕ). records ++ r) (append-nil (line_record size l))
      last false = append-nil records

module _ (number : ℕ) (own : Ip) (ls : List Line) (l : Line) where
  before : Option ℕ → Captured
  before o = captured_by number own ls o

  some_line : (size : ℕ) (b : Bool) → is_at number l ≡ b → captured_by number own (ls ++ l ∷ []) (Some size) ≡ (if b then line_by own l (captured_by number own ls (Some size)) (Some size) else captured_by number own ls (Some size))
  some_line size b at = go b at where
    eth0 : (b : Bool) → is_at number l ≡ b → records_of size (eth0_of number own (ls ++ l ∷ [])) ≡ line_behind (b && is_on_eth0 own l) size l (records_of size (eth0_of number own ls))
    eth0 b at = more_records size (λ (line : Line). is_at number line && is_on_eth0 own line) ls l ∙ ap (λ (t : Bool). line_behind (t && is_on_eth0 own l) size l (records_of size (eth0_of number own ls))) at

    lo : (b : Bool) → is_at number l ≡ b → records_of size (lo_of number own (ls ++ l ∷ [])) ≡ line_behind (b && is_on_lo own l) size l (records_of size (lo_of number own ls))
    lo b at = more_records size (λ (line : Line). is_at number line && is_on_lo own line) ls l ∙ ap (λ (t : Bool). line_behind (t && is_on_lo own l) size l (records_of size (lo_of number own ls))) at

    go : (b : Bool) → is_at number l ≡ b → captured_by number own (ls ++ l ∷ []) (Some size) ≡ (if b then line_by own l (captured_by number own ls (Some size)) (Some size) else captured_by number own ls (Some size))
    go true at = let e = eth0 true at in let f = lo true at in λ i. record { eth0 = e i; lo = f i }
    go false at = let e = eth0 false at in let f = lo false at in λ i. record { eth0 = e i; lo = f i }

  line_by_is : (o : Option ℕ) (b : Bool) → is_at number l ≡ b → captured_by number own (ls ++ l ∷ []) o ≡ (if b then line_by own l (captured_by number own ls o) o else captured_by number own ls o)
  line_by_is None true at = refl
  line_by_is None false at = refl
  line_by_is (Some size) b at = some_line size b at

-- a line of the host, and one of another host
line_here : (number : ℕ) (host : HostNames) (ls : List Line) (l : Line) → l.host.index ≡ number → captured number host (ls ++ l ∷ []) ≡ with_line host l (captured number host ls)
line_here number host ls l here = line_by_is number host.address ls l host.capture true (eq-eqb l.host.index number here)

line_elsewhere : (number : ℕ) (host : HostNames) (ls : List Line) (l : Line) → l.host.index ≢ number → captured number host (ls ++ l ∷ []) ≡ captured number host ls
line_elsewhere number host ls l other = line_by_is number host.address ls l host.capture false (ne_eqb l.host.index number other)

-- ---- all hosts

pub length_captured : (number : ℕ) (hosts : List HostNames) (ls : List Line) → length (captured_from number hosts ls) ≡ length hosts
length_captured number [] ls = refl
length_captured number (host ∷ hosts) ls = ap suc (length_captured (number + 1) hosts ls)

nothing_by : (number : ℕ) (own : Ip) (o : Option ℕ) → captured_by number own [] o ≡ record { eth0 = []; lo = [] }
nothing_by number own None = refl
nothing_by number own (Some size) = refl

abbrev pub nothing : Captured
nothing = record { eth0 = []; lo = [] }

-- where no line is
pub nothing_captured : (number : ℕ) (hosts : List HostNames) → captured_from number hosts [] ≡ replicate (length hosts) nothing
nothing_captured number [] = refl
nothing_captured number (host ∷ hosts) =
    ap (λ (c : Captured). c ∷ captured_from (number + 1) hosts []) (nothing_by number host.address host.capture) ∙ ap (λ (cs : List Captured). nothing ∷ cs) (nothing_captured (number + 1) hosts)

-- a line of none of these hosts
pub line_unseen : (number : ℕ) (hosts : List HostNames) (ls : List Line) (l : Line) → ((k : ℕ) → k < length hosts → l.host.index ≢ number + k) → captured_from number hosts (ls ++ l ∷ []) ≡ captured_from number hosts ls
line_unseen number [] ls l other = refl
line_unseen number (host ∷ hosts) ls l other =
    ap (λ (c : Captured). c ∷ captured_from (number + 1) hosts (ls ++ l ∷ [])) (line_elsewhere number host ls l (λ same. other 0 (omega arith) (omega arith)))
    ∙ ap (λ (cs : List Captured). captured number host ls ∷ cs) (line_unseen (number + 1) hosts ls l (λ k below same. other (suc k) (omega arith) (omega arith)))

pub line_past : (hosts : List HostNames) (ls : List Line) (l : Line) → length hosts ≤ l.host.index → captured_from 0 hosts (ls ++ l ∷ []) ≡ captured_from 0 hosts ls
line_past hosts ls l past = line_unseen 0 hosts ls l (λ k below same. omega arith)

pub captured_at : (number : ℕ) (hosts : List HostNames) (ls : List Line) (k : ℕ) (host : HostNames) (c : Captured) → slice_get hosts k ≡ Some host → slice_get (captured_from number hosts ls) k ≡ Some c → c ≡ captured (number + k) host ls
captured_at number [] ls k host c at is = absurd (let e : None ≡ Some host = at in cc)
captured_at number (h ∷ hosts) ls zero host c at is =
    let first : captured number h ls ≡ c = (let e : Some (captured number h ls) ≡ Some c = is in cc) in
    let same : h ≡ host = (let e : Some h ≡ Some host = at in cc) in
    sym first ∙ ap (λ (x : HostNames). captured number x ls) same ∙ ap (λ (n : ℕ). captured n host ls) (let e : number ≡ number + 0 = omega arith in e)
captured_at number (h ∷ hosts) ls (suc k) host c at is =
    captured_at (number + 1) hosts ls k host c at is ∙ ap (λ (n : ℕ). captured n host ls) (let e : number + 1 + k ≡ number + suc k = omega arith in e)

-- the line of a host, put behind those that it has
pub line_set : (number : ℕ) (hosts : List HostNames) (ls : List Line) (l : Line) (k : ℕ) (host : HostNames) → slice_get hosts k ≡ Some host → l.host.index ≡ number + k
    → set (captured_from number hosts ls) k (with_line host l (captured (number + k) host ls)) ≡ captured_from number hosts (ls ++ l ∷ [])
line_set number [] ls l k host at is = absurd (let e : None ≡ Some host = at in cc)
line_set number (h ∷ hosts) ls l zero host at is =
    let same : h ≡ host = (let e : Some h ≡ Some host = at in cc) in
    let here : l.host.index ≡ number = omega arith in
    let zero-more : number + 0 ≡ number = omega arith in
    ap (λ (n : ℕ). with_line host l (captured n host ls) ∷ captured_from (number + 1) hosts ls) zero-more
    ∙ ap (λ (x : HostNames). with_line x l (captured number x ls) ∷ captured_from (number + 1) hosts ls) (sym same)
    ∙ ap (λ (c : Captured). c ∷ captured_from (number + 1) hosts ls) (sym (line_here number h ls l here))
    ∙ ap (λ (cs : List Captured). captured number h (ls ++ l ∷ []) ∷ cs) (sym (line_unseen (number + 1) hosts ls l (λ j below later. omega arith)))
line_set number (h ∷ hosts) ls l (suc k) host at is =
    let next : number + suc k ≡ number + 1 + k = omega arith in
    ap (λ (n : ℕ). captured number h ls ∷ set (captured_from (number + 1) hosts ls) k (with_line host l (captured n host ls))) next
    ∙ ap (λ (cs : List Captured). captured number h ls ∷ cs) (line_set (number + 1) hosts ls l k host at (omega arith))
    ∙ ap (λ (c : Captured). c ∷ captured_from (number + 1) hosts (ls ++ l ∷ [])) (sym (line_elsewhere number h ls l (λ same. omega arith)))

-- ---- hosts that capture nothing

nothing_there : (front : ℕ → List ℕ) (name : List ℕ) (c : Captured) (o : Option ℕ) → is_there o ≡ false → files_by front name c o ≡ []
nothing_there front name c None none = refl
nothing_there front name c (Some size) none = absurd (cc)

pub none_captures : (front : ℕ → List ℕ) (hosts : List HostListing) (cs : List Captured) → list_any (λ (host : HostListing). has_captures (said host)) hosts ≡ false → by_host (host_captures front) (map said hosts) cs ≡ []
none_captures front [] cs none = refl
none_captures front (host ∷ hosts) [] none = refl
none_captures front (host ∷ hosts) (c ∷ cs) none = go (has_captures (said host)) refl none (λ e. none_captures front hosts cs e) where
  go : (b : Bool) → has_captures (said host) ≡ b → (b || list_any (λ (h : HostListing). has_captures (said h)) hosts) ≡ false → (list_any (λ (h : HostListing). has_captures (said h)) hosts ≡ false → by_host (host_captures front) (map said hosts) cs ≡ [])
      → host_captures front (said host) c ++ by_host (host_captures front) (map said hosts) cs ≡ []
  go true is e later = absurd (cc)
  go false is e later = ap (λ (ps : List Put). ps ++ by_host (host_captures front) (map said hosts) cs) (nothing_there front host.name c host.capture is) ∙ later e

-- ---- pieces

-- those of one host more
pub captured_step : (f : HostNames → Captured → List Put) (host : HostListing) (hosts : List HostListing) (c : Captured) (cs : List Captured) (old new whole : List Put)
    → new ≡ old ++ with_bytes (f (said host) c) → old ++ with_bytes (by_host f (map said (host ∷ hosts)) (c ∷ cs)) ≡ whole → new ++ with_bytes (by_host f (map said hosts) cs) ≡ whole
captured_step f host hosts c cs old new whole is so_far =
    let rest = by_host f (map said hosts) cs in
    ap (λ (l : List Put). l ++ with_bytes rest) is ∙ append_assoc old (with_bytes (f (said host) c)) (with_bytes rest)
    ∙ ap (λ (l : List Put). old ++ l) (sym (with_bytes_append (f (said host) c) rest)) ∙ so_far

captured_none : (f : HostNames → Captured → List Put) (hosts : List HostListing) (cs : List Captured) → (length hosts ≡ 0) ⊎ (length cs ≡ 0) → by_host f (map said hosts) cs ≡ []
captured_none f [] cs none = refl
captured_none f (host ∷ hosts) [] none = refl
captured_none f (host ∷ hosts) (c ∷ cs) (inl none) = absurd (omega arith)
captured_none f (host ∷ hosts) (c ∷ cs) (inr none) = absurd (omega arith)

pub captured_end : (f : HostNames → Captured → List Put) (hosts : List HostListing) (cs : List Captured) (puts whole : List Put) → (length hosts ≡ 0) ⊎ (length cs ≡ 0)
    → puts ++ with_bytes (by_host f (map said hosts) cs) ≡ whole → puts ≡ whole
captured_end f hosts cs puts whole none so_far = sym (append-nil puts) ∙ ap (λ (l : List Put). puts ++ with_bytes l) (sym (captured_none f hosts cs none)) ∙ so_far

-- ---- one line of all

at_listed : (hosts : List HostListing) (i : ℕ) (host : HostListing) → i < length hosts → host ≡ get_or hosts i host → slice_get (map said hosts) i ≡ Some (said host)
at_listed [] i host below is = absurd (omega arith)
at_listed (h ∷ hosts) zero host below is = ap (λ (x : HostListing). Some (said x)) (sym is)
at_listed (h ∷ hosts) (suc i) host below is = at_listed hosts i host (omega arith) is

pub line_put : (hosts : List HostListing) (ls : List Line) (l : Line) (old : List Captured) (host : HostListing) (c new : Captured) → old ≡ captured_from 0 (map said hosts) ls
    → l.host.index < length hosts → host ≡ get_or hosts l.host.index host → l.host.index < length old → c ≡ get_or old l.host.index c → new ≡ with_line (said host) l c
    → set old l.host.index new ≡ captured_from 0 (map said hosts) (ls ++ l ∷ [])
line_put hosts ls l old host c new old_is below host_is there c_is new_is =
    let i = l.host.index in
    let at = at_listed hosts i host below host_is in
    let found : slice_get old i ≡ Some c = slice_get_read old (length old) i c refl there c_is in
    let same : c ≡ captured (0 + i) (said host) ls = captured_at 0 (map said hosts) ls i (said host) c at (subst (λ (o : List Captured). slice_get o i ≡ Some c) old_is found) in
    let here : l.host.index ≡ 0 + i = omega arith in
    ap (λ (x : Captured). set old i x) (new_is ∙ ap (with_line (said host) l) same)
    ∙ ap (λ (o : List Captured). set o i (with_line (said host) l (captured (0 + i) (said host) ls))) old_is
    ∙ line_set 0 (map said hosts) ls l i (said host) at here

pub line_beyond : (hosts : List HostListing) (ls : List Line) (l : Line) (old : List Captured) → old ≡ captured_from 0 (map said hosts) ls → length hosts ≤ l.host.index → old ≡ captured_from 0 (map said hosts) (ls ++ l ∷ [])
line_beyond hosts ls l old old_is past = old_is ∙ sym (line_past (map said hosts) ls l (let e = length-map hosts said in omega arith))

-- hosts and what they captured are as many
pub line_unheld : (hosts : List HostListing) (ls : List Line) (l : Line) (old : List Captured) → old ≡ captured_from 0 (map said hosts) ls → length old ≤ l.host.index → old ≡ captured_from 0 (map said hosts) (ls ++ l ∷ [])
line_unheld hosts ls l old old_is past =
    let count : length old ≡ length hosts = ap length old_is ∙ length_captured 0 (map said hosts) ls ∙ length-map hosts said in
    line_beyond hosts ls l old old_is (omega arith)

line_next : (lines : List Logged) (i : ℕ) (line : Logged) → i < length lines → line ≡ get_or lines i line → kept_lines (take i lines) ++ (line.line ∷ []) ≡ kept_lines (take (suc i) lines)
line_next [] i line below is = absurd (omega arith)
line_next (x ∷ xs) zero line below is = ap (λ (y : Logged). y.line ∷ []) is
line_next (x ∷ xs) (suc i) line below is = ap (λ (ls : List Line). x.line ∷ ls) (line_next xs i line (omega arith) is)

pub lines_more : (lines : List Logged) (i : ℕ) (line : Logged) → i < length lines → line ≡ get_or lines i line → kept_lines (take i lines) ++ (line.line ∷ []) ≡ kept_lines (take (i + 1) lines)
lines_more lines i line below is = line_next lines i line below is ∙ ap (λ (j : ℕ). kept_lines (take j lines)) (let e : suc i ≡ i + 1 = omega arith in e)
