-- The lines of the block of a configuration are those that are shown.
use Rattle.std.proofs.Common.{◌≡◌, ℕ, ◌+◌, ◌==◌, Bool, true, false, if◌then◌else◌, List, [], ◌∷◌, ◌++◌, map, flat_map, Option, Some, None, codes, decimal, refl, sym, ap, ◌∙◌, append_assoc, append-nil}
use Rattle.sim_base.specs.Signal.{signal_name}
use Rattle.sim_base.specs.declared.time.Time.{Time}
use Rattle.shd_config.specs.declared.config.GraphSource.{GraphSource}
use Rattle.shd_config.specs.declared.config.GraphSource.TheVariants as sources
use Rattle.host_rows.specs.declared.row.FinalState.{FinalState}
use Rattle.host_rows.specs.declared.row.FinalState.TheVariants.{Exited, Signaled, Running}
use Rattle.shd_config.specs.declared.config.Variable.{Variable}
use Rattle.shd_config.specs.declared.config.ProcessConfig.{ProcessConfig}
use Rattle.shd_config.specs.declared.config.HostConfig.{HostConfig}
use Rattle.shd_config.specs.declared.config.Config.{Config}
use Rattle.config_lines.specs.Quoted.{quoted}
use Rattle.config_lines.specs.Shown.{shown_time, shown_rate, shown_truth, shown_address, shown_rule, shown_state, listed, shown_args, shown_environment, line, line_if, shown_general, shown_graph, shown_network, process_lines, end_lines, shown_end, shown_process, shown_processes, changed_options, shown_interface, shown_options, host_lines, shown_host, shown}
use Rattle.shown_config.proofs.words.Words.{text_of}
use Rattle.shown_config.proofs.words.Words.Word.{bare, quote}
use Rattle.shown_config.proofs.forms.Forms.{entry_text}
use Rattle.shown_config.proofs.forms.Cells.{Cell, cell_text}
use Rattle.shown_config.proofs.forms.Cells.Cell.{word}
use Rattle.shown_config.proofs.forms.Rows.{spaces}
use Rattle.shown_config.proofs.blocks.Blocks.{Block, leaf_lines, item_lines, block_lines}
use Rattle.shown_config.proofs.blocks.Blocks.Block.{done, leaf_then, block_then}
use Rattle.shown_config.proofs.blocks.BlockText.{ended, ended_append}
use Rattle.shown_config.proofs.config.ConfigBlock.{args_cell, config_block, environment_cell, general_block, graph_block, host_block, hosts_block, leaf_if, network_block, option_entries, options_cell, process_item, processes_block, rate_cell, shutdown_leaves, state_cell, variable_words}

-- ---- lines

-- the text of a block's lines
abbrev text_at : ℕ → Block → List ℕ
text_at column b = ended (block_lines column b)

ended_block_then : (column : ℕ) (inner rest : Block) → ended (block_lines (column + 2) inner ++ block_lines column rest) ≡ text_at (column + 2) inner ++ text_at column rest
ended_block_then column inner rest = ended_append (block_lines (column + 2) inner) (block_lines column rest)

general_text : (c : Config) → shown_general c ≡ codes "general:\n" ++ text_at 2 (general_block c)
general_text c = refl

graph_text : (g : GraphSource) → shown_graph g ≡ text_at 4 (graph_block g)
graph_text sources.OneGbitSwitch = refl
graph_text (sources.Inline text) = refl
graph_text (sources.File name) = ap (λ l. codes "    type: gml\n    file: {path: " ++ (l ++ (10 ∷ []))) (sym (ap (λ l. l ++ codes "}") (append-nil (quoted name))))

network_text : (c : Config) → shown_network c ≡ codes "network:\n" ++ text_at 2 (network_block c)
network_text c =
    ap (λ l. codes "network:\n  graph:\n" ++ (l ++ text_at 2 behind)) (graph_text c.graph)
    ∙ ap (λ l. codes "network:\n  graph:\n" ++ l) (sym (ended_block_then 2 (graph_block c.graph) behind))
  where
    behind : Block
    behind =
        leaf_then (bare (codes "use_shortest_path")) (word (bare (shown_truth c.use_shortest_path)))
        (leaf_then (bare (codes "router_queue")) (word (bare (shown_rule c.router_queue))) done)

-- ---- processes

more_map : {A B : Type 0} (show : B → List ℕ) (f : A → B) (xs : List A) → flat_map (λ y. codes ", " ++ show y) (map f xs) ≡ flat_map (λ x. codes ", " ++ show (f x)) xs
more_map show f [] = refl
more_map show f (x ∷ xs) = ap (λ l. (codes ", " ++ show (f x)) ++ l) (more_map show f xs)

listed_map : {A B : Type 0} (show : B → List ℕ) (f : A → B) (xs : List A) → listed show (map f xs) ≡ listed (λ x. show (f x)) xs
listed_map show f [] = refl
listed_map show f (x ∷ xs) = ap (λ l. show (f x) ++ l) (more_map show f xs)

args_text : (args : List (List ℕ)) → shown_args args ≡ cell_text (args_cell args)
args_text args = ap (λ l. codes "[" ++ (l ++ codes "]")) (sym (listed_map text_of quote args))

environment_text : (variables : List Variable) → shown_environment variables ≡ cell_text (environment_cell variables)
environment_text variables = ap (λ l. codes "{" ++ (l ++ codes "}")) (sym (listed_map entry_text variable_words variables))

state_text : (s : FinalState) → shown_state s ≡ cell_text (state_cell s)
state_text (Exited status) = ap (λ l. codes "{exited: " ++ (l ++ codes "}")) (sym (append-nil (decimal status)))
state_text (Signaled signal) = ap (λ l. codes "{signaled: " ++ (l ++ codes "}")) (sym (append-nil (signal_name signal)))
state_text Running = refl

end_text : (shutdown : Option Time) (signal : List ℕ) (state : Cell) → end_lines (line_if (codes "      shutdown_time") shown_time shutdown) signal (cell_text state)
    ≡ ended (leaf_lines 6 (shutdown_leaves shutdown ((bare (codes "shutdown_signal"), word (bare signal)) ∷ (bare (codes "expected_final_state"), state) ∷ [])))
unfolding end_lines
end_text None signal state = refl
end_text (Some t) signal state = ap (λ l. codes "      shutdown_time: " ++ l) (append_assoc (shown_time t) (10 ∷ []) (ended (leaf_lines 6 ((bare (codes "shutdown_signal"), word (bare signal)) ∷ (bare (codes "expected_final_state"), state) ∷ []))))

process_text : (p : ProcessConfig) → shown_process p ≡ ended (item_lines 4 (process_item p))
unfolding shown_process process_lines
process_text p =
    ap (λ l. process_lines (quoted p.path) l (shown_environment p.environment) (shown_time p.start_time) (shown_end p)) (args_text p.args)
    ∙ ap (λ l. process_lines (quoted p.path) (cell_text (args_cell p.args)) l (shown_time p.start_time) (shown_end p)) (environment_text p.environment)
    ∙ ap (λ l. process_lines (quoted p.path) (cell_text (args_cell p.args)) (cell_text (environment_cell p.environment)) (shown_time p.start_time) l)
    (ap (end_lines (line_if (codes "      shutdown_time") shown_time p.shutdown_time) (signal_name p.shutdown_signal)) (state_text p.expected_final_state)
    ∙ end_text p.shutdown_time (signal_name p.shutdown_signal) (state_cell p.expected_final_state))

items_text : (ps : List ProcessConfig) → flat_map shown_process ps ≡ ended (flat_map (item_lines 4) (map process_item ps))
items_text [] = refl
items_text (p ∷ ps) =
    ap (λ l. l ++ flat_map shown_process ps) (process_text p)
    ∙ ap (λ l. ended (item_lines 4 (process_item p)) ++ l) (items_text ps)
    ∙ sym (ended_append (item_lines 4 (process_item p)) (flat_map (item_lines 4) (map process_item ps)))

processes_text : (ps : List ProcessConfig) → shown_processes ps ≡ text_at 4 (processes_block ps)
processes_text [] = refl
processes_text (p ∷ ps) =
    ap (λ l. codes "    processes:\n" ++ l)
    (items_text (p ∷ ps) ∙ ap ended (sym (append-nil (flat_map (item_lines 4) (map process_item (p ∷ ps))))))

-- ---- hosts

-- a line that is shown only where there is a value, before the lines that follow
if_text : {A : Type 0} (key : List ℕ) (show : A → List ℕ) (cell : A → Cell) → ((x : A) → show x ≡ cell_text (cell x)) → (o : Option A) (rest : Block)
    → line_if (spaces 4 ++ key) show o ++ text_at 4 rest ≡ text_at 4 (leaf_if key cell o rest)
if_text key show cell e None rest = refl
if_text key show cell e (Some x) rest =
    ap (λ l. ((spaces 4 ++ key) ++ (codes ": " ++ (l ++ (10 ∷ [])))) ++ text_at 4 rest) (e x)
    ∙ ap (λ l. codes "    " ++ l)
    (append_assoc key (codes ": " ++ (cell_text (cell x) ++ (10 ∷ []))) (text_at 4 rest)
    ∙ ap (λ l. key ++ (codes ": " ++ l)) (append_assoc (cell_text (cell x)) (10 ∷ []) (text_at 4 rest))
    ∙ sym (append_assoc key (codes ": " ++ cell_text (cell x)) (10 ∷ text_at 4 rest)))

-- the text of the options by whether the size is the default
abbrev options_by : Bool → Bool → ℕ → Option (List ℕ)
options_by false true size = None
options_by false false size = Some (codes "{pcap_capture_size: " ++ (decimal size ++ codes " B}"))
options_by true true size = Some (codes "{pcap_enabled: true}")
options_by true false size = Some (codes "{pcap_enabled: true, pcap_capture_size: " ++ (decimal size ++ codes " B}"))

changed_by : (enabled : Bool) (size : ℕ) → changed_options enabled size ≡ options_by enabled (size == 65535) size
changed_by false size = by (size == 65535)
  where
    by : (t : Bool) → (if t then None else Some (codes "{pcap_capture_size: " ++ (decimal size ++ codes " B}"))) ≡ options_by false t size
    by true = refl
    by false = refl
changed_by true size = by (size == 65535)
  where
    by : (t : Bool) → (if t then Some (codes "{pcap_enabled: true}") else Some (codes "{pcap_enabled: true, pcap_capture_size: " ++ (decimal size ++ codes " B}"))) ≡ options_by true t size
    by true = refl
    by false = refl

-- a size before the closing bracket
size_text : (size : ℕ) → decimal size ++ codes " B}" ≡ ((decimal size ++ codes " B") ++ []) ++ codes "}"
size_text size = sym (ap (λ l. l ++ codes "}") (append-nil (decimal size ++ codes " B")) ∙ append_assoc (decimal size) (codes " B") (codes "}"))

options_text : (enabled all : Bool) (size : ℕ) (rest : Block) → line_if (codes "    host_options") (λ options. options) (options_by enabled all size) ++ text_at 4 rest ≡ text_at 4 (leaf_if (codes "host_options") (λ cell. cell) (option_entries enabled all size) rest)
options_text false true size rest = refl
options_text false false size rest =
    ap (λ l. (codes "    host_options: {pcap_capture_size: " ++ (l ++ (10 ∷ []))) ++ text_at 4 rest) (size_text size)
    ∙ ap (λ l. codes "    host_options: {pcap_capture_size: " ++ l) (append_assoc (((decimal size ++ codes " B") ++ []) ++ codes "}") (10 ∷ []) (text_at 4 rest))
options_text true true size rest = refl
options_text true false size rest =
    ap (λ l. (codes "    host_options: {pcap_enabled: true, pcap_capture_size: " ++ (l ++ (10 ∷ []))) ++ text_at 4 rest) (size_text size)
    ∙ ap (λ l. codes "    host_options: {pcap_enabled: true, pcap_capture_size: " ++ l) (append_assoc (((decimal size ++ codes " B") ++ []) ++ codes "}") (10 ∷ []) (text_at 4 rest))

host_text : (h : HostConfig) → shown_host h ≡ codes "  " ++ (quoted h.name ++ (codes ":\n" ++ text_at 4 (host_block h)))
unfolding shown_host host_lines
host_text h =
    ap (λ l. host_lines (quoted h.name) h.network_node_id (shown_interface h) (shown_options h) l) (processes_text h.processes)
    ∙ ap (λ l. codes "  " ++ (quoted h.name ++ (codes ":\n" ++ line (codes "    network_node_id") (decimal h.network_node_id) l)))
    (ap (λ l. shown_interface h ++ (line_if (codes "    host_options") (λ options. options) l ++ text_at 4 (processes_block h.processes))) (changed_by h.pcap_enabled h.pcap_capture_size)
    ∙ ap (λ l. shown_interface h ++ l) (options_text h.pcap_enabled (h.pcap_capture_size == 65535) h.pcap_capture_size (processes_block h.processes))
    ∙ append_assoc (line_if (codes "    ip_addr") shown_address h.ip_addr) (line_if (codes "    bandwidth_up") shown_rate h.bandwidth_up ++ line_if (codes "    bandwidth_down") shown_rate h.bandwidth_down) (text_at 4 options)
    ∙ ap (λ l. line_if (codes "    ip_addr") shown_address h.ip_addr ++ l)
    (append_assoc (line_if (codes "    bandwidth_up") shown_rate h.bandwidth_up) (line_if (codes "    bandwidth_down") shown_rate h.bandwidth_down) (text_at 4 options)
    ∙ ap (λ l. line_if (codes "    bandwidth_up") shown_rate h.bandwidth_up ++ l) (if_text (codes "bandwidth_down") shown_rate rate_cell (λ n. refl) h.bandwidth_down options)
    ∙ if_text (codes "bandwidth_up") shown_rate rate_cell (λ n. refl) h.bandwidth_up down)
    ∙ if_text (codes "ip_addr") shown_address (λ ip. word (bare (shown_address ip))) (λ ip. refl) h.ip_addr up)
  where
    options : Block
    options = leaf_if (codes "host_options") (λ cell. cell) (options_cell h) (processes_block h.processes)

    down : Block
    down = leaf_if (codes "bandwidth_down") rate_cell h.bandwidth_down options

    up : Block
    up = leaf_if (codes "bandwidth_up") rate_cell h.bandwidth_up down

hosts_text : (hs : List HostConfig) → flat_map shown_host hs ≡ text_at 2 (hosts_block hs)
hosts_text [] = refl
hosts_text (h ∷ hs) =
    ap (λ l. l ++ flat_map shown_host hs) (host_text h)
    ∙ ap (λ l. codes "  " ++ l)
    (append_assoc (quoted h.name) (codes ":\n" ++ text_at 4 (host_block h)) (flat_map shown_host hs)
    ∙ ap (λ l. quoted h.name ++ (codes ":\n" ++ (text_at 4 (host_block h) ++ l))) (hosts_text hs)
    ∙ ap (λ l. quoted h.name ++ (codes ":\n" ++ l)) (sym (ended_block_then 2 (host_block h) (hosts_block hs)))
    ∙ sym (append_assoc (quoted h.name) (codes ":") (10 ∷ ended (block_lines 4 (host_block h) ++ block_lines 2 (hosts_block hs)))))

-- ---- the whole

pub shown_text : (c : Config) → shown c ≡ ended (block_lines 0 (config_block c))
unfolding shown
shown_text c =
    ap (λ l. shown_general c ++ (shown_network c ++ (codes "hosts:\n" ++ l))) (hosts_text c.hosts)
    ∙ ap (λ l. shown_general c ++ (l ++ (codes "hosts:\n" ++ text_at 2 (hosts_block c.hosts)))) (network_text c)
    ∙ ap (λ l. codes "general:\n" ++ (text_at 2 (general_block c) ++ (codes "network:\n" ++ (text_at 2 (network_block c) ++ (codes "hosts:\n" ++ l))))) (sym (append-nil (text_at 2 (hosts_block c.hosts))))
    ∙ ap (λ l. codes "general:\n" ++ (text_at 2 (general_block c) ++ (codes "network:\n" ++ (text_at 2 (network_block c) ++ (codes "hosts:\n" ++ l))))) (sym (ended_block_then 0 (hosts_block c.hosts) done))
    ∙ ap (λ l. codes "general:\n" ++ (text_at 2 (general_block c) ++ (codes "network:\n" ++ l))) (sym (ended_block_then 0 (network_block c) hosts))
    ∙ ap (λ l. codes "general:\n" ++ l) (sym (ended_block_then 0 (general_block c) network))
  where
    hosts : Block
    hosts = block_then (bare (codes "hosts")) (hosts_block c.hosts) done

    network : Block
    network = block_then (bare (codes "network")) (network_block c) hosts
