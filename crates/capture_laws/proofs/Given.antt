-- a run is given bytes, and addresses of 32 bits
use Rattle.std.proofs.Common.{List, Ok, Result, Some, [], ap, arith, codes, decimal, flat_map, leb-true, map, mod-lt, nat_le, not, refl, slice_get, subst, suc, sym, true, ℕ, ◌%◌, ◌++◌, ◌+◌, ◌/◌, ◌<◌, ◌^◌, ◌∷◌, ◌≡◌, ◌≤◌}
use Rattle.std.proofs.lemmas.Bool.{and_parts}
use Rattle.std.proofs.lemmas.List.Elements.{All-from_recursion, recursion_from_All}
use Rattle.std.proofs.lemmas.List.Sorted.{All-permutation}
use Rattle.std.proofs.lemmas.Nat.{div_below}
use Rattle.std.specs.List.{AllByRecursion}
use Rattle.capture_laws.proofs.Images.{images_have}
use Rattle.capture_laws.proofs.Plans.{run_over}
use Rattle.capture_laws.proofs.Texts.{all_small, decimal_are, utf8_are}
use Rattle.capture_laws.specs.Given.{HasBytes, HoldBytes}
use Rattle.config_texts.specs.Texts.{AreUtf8, HasTexts, HostIsText, ProcessIsText, VariableIsText}
use Rattle.elf_load.specs.ProgramImage.{ProgramImage}
use Rattle.gml_graph.specs.declared.graph.Graph.{Graph}
use Rattle.out_text.specs.Address.{ip_text}
use Rattle.out_text.specs.Hosts.{host_line, hosts_text}
use Rattle.pcap_text.specs.Laws.{IsByte}
use Rattle.run_fits.proofs.Bytes.{all_append}
use Rattle.run_fits.specs.Bytes.{AreBytes, AreTexts}
use Rattle.run_fits.specs.Given.{ImageHasBytes, NetHasBytes, ProcessHasBytes, RowsFit}
use Rattle.run_fits.specs.Sockets.{FitsIp}
use Rattle.run_plan.specs.HostRows.{host_rows}
use Rattle.run_plan.specs.Plan.{line_of_host, run_of}
use Rattle.run_plan.specs.Programs.{programs_of}
use Rattle.run_plan.specs.declared.fault.Fault.{Fault}
use Rattle.run_plan.specs.declared.host_row.HostRow.{HostRow}
use Rattle.run_plan.specs.declared.plan.Plan.{Plan}
use Rattle.run_plan.specs.declared.plan.Settings.{Settings}
use Rattle.run_plan.specs.declared.planned.Run.{Run}
use Rattle.run_plan.specs.declared.rates.Rates.{Rates}
use Rattle.shadow_top.specs.Input.{Input, IsToRun}
use Rattle.plan_rows.specs.Rows.{net_of, processes_of, rows_from, rows_of, variable_text}
use Rattle.shd_config.specs.Values.{is_within, may_be_host}
use Rattle.shd_config.specs.declared.config.Config.{Config}
use Rattle.shd_config.specs.declared.config.HostConfig.{HostConfig}
use Rattle.shd_config.specs.declared.config.ProcessConfig.{ProcessConfig}
use Rattle.shd_config.specs.declared.config.Variable.{Variable}
use Rattle.run_outside.specs.Files.{Held}
use Rattle.sim_base.specs.declared.address.Ip.{Ip}
use Rattle.stream_lines.proofs.Planned.{plan_is, planned_rows}
use Rattle.stream_lines.proofs.Rows.{addressed, host_addresses}
use Rattle.stream_lines.specs.Addresses.{HaveHostAddresses}
use Rattle.run_plan.specs.HostRows as plan

-- ---- rows

abbrev RowIsText : HostRow → Type 0
RowIsText row = HostIsText row.config

rows_text : (programs : List (List ℕ)) (hosts : List HostConfig) (rates : List Rates) (addresses : List Ip) → AllByRecursion HostIsText hosts → AllByRecursion RowIsText (plan.rows_of programs hosts rates addresses)
rows_text programs [] rates addresses h = tt
rows_text programs (host ∷ hosts) [] addresses h = tt
rows_text programs (host ∷ hosts) (r ∷ rates) [] h = tt
rows_text programs (host ∷ hosts) (r ∷ rates) (a ∷ addresses) h = (h.0, rows_text programs hosts rates addresses h.1)

host_rows_text : (name : List ℕ) (graph : Graph) (hosts : List HostConfig) (rows : List HostRow) → AllByRecursion HostIsText hosts → (host_rows name graph hosts).answers (Ok rows) → AllByRecursion RowIsText rows
unfolding host_rows
host_rows_text name graph hosts rows texts (ordered, order, (rates, r, (addresses, a, e))) =
    let same : plan.rows_of (programs_of hosts) ordered rates addresses ≡ rows = cc in
    let all = recursion_from_All HostIsText ordered (All-permutation HostIsText hosts ordered order.same (All-from_recursion HostIsText hosts texts)) in
    subst (λ (xs : List HostRow). AllByRecursion RowIsText xs) same (rows_text (programs_of hosts) ordered rates addresses all)

texts_bytes : (texts : List (List ℕ)) → AreUtf8 texts → AreTexts texts
texts_bytes [] h = tt
texts_bytes (text ∷ texts) h = (utf8_are text h.0, texts_bytes texts h.1)

variables_bytes : (vs : List Variable) → AllByRecursion VariableIsText vs → AreTexts (map variable_text vs)
variables_bytes [] h = tt
variables_bytes (v ∷ vs) h = (
  all_append IsByte v.name (codes "=" ++ v.value) (utf8_are v.name h.0.0)
      (all_append IsByte (codes "=") v.value (all_small (codes "=") refl) (utf8_are v.value h.0.1)),
  variables_bytes vs h.1,
)

processes_bytes : (cs : List ProcessConfig) (images : List ℕ) → AllByRecursion ProcessIsText cs → AllByRecursion ProcessHasBytes (processes_of cs images)
processes_bytes [] images h = tt
processes_bytes (c ∷ cs) [] h = tt
processes_bytes (c ∷ cs) (image ∷ images) h =
    (((utf8_are c.path h.0.0, texts_bytes c.args h.0.1), variables_bytes c.environment h.0.2), processes_bytes cs images h.1)

-- an address that a host may have
abbrev IsAddressed : HostRow → Type 0
IsAddressed row = may_be_host row.address ≡ true

address_few : (ip : Ip) → may_be_host ip ≡ true → FitsIp ip
address_few ip e =
    let parts = and_parts (is_within 0x01000000 0xdfffffff ip.bits) (not (is_within 0x7f000000 0x7fffffff ip.bits)) e in
    let high = (and_parts (nat_le 0x01000000 ip.bits) (nat_le ip.bits 0xdfffffff) parts.0).1 in
    let most : ip.bits ≤ 0xdfffffff = leb-true ip.bits 0xdfffffff high in
    omega (arith, most)

rows_fit : (settings : Settings) (number : ℕ) (rows : List HostRow) → AllByRecursion RowIsText rows → ((i : ℕ) (row : HostRow) → slice_get rows i ≡ Some row → IsAddressed row) → RowsFit (rows_from settings number rows)
rows_fit settings number [] texts may = tt
rows_fit settings number (row ∷ rows) texts may = (
  (address_few row.address (may 0 row refl), processes_bytes row.config.processes row.images texts.0.1),
  rows_fit settings (number + 1) rows texts.1 (λ i other there. may (suc i) other there),
)

-- ---- /etc/hosts

name_bytes : (row : HostRow) → RowIsText row → AreBytes row.config.name
name_bytes row h = utf8_are row.config.name h.0

byte_text : (n : ℕ) → AreBytes (decimal (n % 256))
byte_text n = let few : n % 256 < 256 = mod-lt n (omega arith) in decimal_are (n % 256) (omega (arith, few))

point : AreBytes (codes ".")
point = all_small (codes ".") refl

behind : (number rest : List ℕ) → AreBytes number → AreBytes rest → AreBytes (number ++ (codes "." ++ rest))
behind number rest h k = all_append IsByte number (codes "." ++ rest) h (all_append IsByte (codes ".") rest point k)

ip_bytes : (ip : Ip) → FitsIp ip → AreBytes (ip_text ip)
ip_bytes ip few =
    let first = div_below ip.bits (2 ^ 24) 256 (omega arith) (omega (arith, few)) in
    let last = decimal (ip.bits % 256) in
    let third = decimal (ip.bits / 2 ^ 8 % 256) ++ (codes "." ++ last) in
    let second = decimal (ip.bits / 2 ^ 16 % 256) ++ (codes "." ++ third) in
    behind (decimal (ip.bits / 2 ^ 24)) second (decimal_are (ip.bits / 2 ^ 24) (omega (arith, first)))
    (behind (decimal (ip.bits / 2 ^ 16 % 256)) third (byte_text (ip.bits / 2 ^ 16))
    (behind (decimal (ip.bits / 2 ^ 8 % 256)) last (byte_text (ip.bits / 2 ^ 8)) (byte_text ip.bits)))

line_bytes : (row : HostRow) → RowIsText row → IsAddressed row → AreBytes (host_line (line_of_host row))
line_bytes row text may =
    all_append IsByte (ip_text row.address) (codes " " ++ (row.config.name ++ codes "\n")) (ip_bytes row.address (address_few row.address may))
    (all_append IsByte (codes " ") (row.config.name ++ codes "\n") (all_small (codes " ") refl)
    (all_append IsByte row.config.name (codes "\n") (name_bytes row text) (all_small (codes "\n") refl)))

lines_bytes : (rows : List HostRow) → AllByRecursion RowIsText rows → ((i : ℕ) (row : HostRow) → slice_get rows i ≡ Some row → IsAddressed row) → AreBytes (flat_map host_line (map line_of_host rows))
lines_bytes [] texts may = tt
lines_bytes (row ∷ rows) texts may =
    all_append IsByte (host_line (line_of_host row)) (flat_map host_line (map line_of_host rows)) (line_bytes row texts.0 (may 0 row refl))
    (lines_bytes rows texts.1 (λ i other there. may (suc i) other there))

hosts_bytes : (rows : List HostRow) → AllByRecursion RowIsText rows → ((i : ℕ) (row : HostRow) → slice_get rows i ≡ Some row → IsAddressed row) → AreBytes (hosts_text (map line_of_host rows))
hosts_bytes rows texts may =
    all_append IsByte (codes "127.0.0.1 localhost\n") (flat_map host_line (map line_of_host rows)) (all_small (codes "127.0.0.1 localhost\n") refl) (lines_bytes rows texts may)

-- ---- a plan

record IsGiven (p : Plan) : Type 0 where
  images : AllByRecursion ImageHasBytes p.images
  hosts : AreBytes p.hosts_text
  rows : AllByRecursion RowIsText p.rows

plan_given : (held : Held) (name : List ℕ) (graph : Graph) (c : Config) (p : Plan) → HoldBytes held → HasTexts c → HaveHostAddresses p.rows → (run_of held name graph c).answers (Ok p) → IsGiven p
unfolding run_of
plan_given held name graph c p hold texts may (rows, h, (routes, k, (made, m, (lookahead, n, e)))) =
    let same_rows : rows ≡ p.rows = ap (λ (r : Result Plan Fault). (plan_is p r).rows) e in
    let same_images : made ≡ p.images = ap (λ (r : Result Plan Fault). (plan_is p r).images) e in
    let same_hosts : hosts_text (map line_of_host rows) ≡ p.hosts_text = ap (λ (r : Result Plan Fault). (plan_is p r).hosts_text) e in
    let all = host_rows_text name graph c.hosts rows texts h in
    record {
      images = subst (λ (xs : List ProgramImage). AllByRecursion ImageHasBytes xs) same_images (images_have held hold (programs_of c.hosts) made m);
      hosts = subst AreBytes same_hosts (hosts_bytes rows all (subst HaveHostAddresses (sym same_rows) may));
      rows = subst (λ (xs : List HostRow). AllByRecursion RowIsText xs) same_rows all;
    }

-- ---- a run

module _ (i : Input) (run : Run) (bytes : HasBytes i) (is : IsToRun i run) where
  may_have : HaveHostAddresses run.plan.rows
  may_have = let has = addressed run.plan.rows (planned_rows i.words i.held run is.asked) in host_addresses run.plan.rows has

  given_so : IsGiven run.plan
  given_so =
      let over = run_over i.words i.held run is.asked in
      plan_given over.files over.name over.graph over.configuration run.plan (over.bytes bytes) over.texts may_have over.is

  pub net_given : NetHasBytes (net_of run)
  net_given = record { images = given_so.images; hosts = given_so.hosts }

  pub rows_given : RowsFit (rows_of run)
  rows_given = rows_fit run.plan.settings 0 run.plan.rows given_so.rows may_have
