-- The rows of hosts and the net that a run begins with: what is planned says all of them.
use Rattle.std.specs.Prelude.{ℕ, ◌+◌, ◌^◌, List, [], ◌∷◌, ◌++◌, map, Option, Some, None, codes, min, if◌then◌else◌}
use Rattle.sim_base.specs.declared.time.Time.{Time}
use Rattle.file_calls.specs.declared.known.Known.{Known}
use Rattle.host_link.specs.Net.{Net}
use Rattle.host_rows.specs.declared.row.ProcessRow.{ProcessRow}
use Rattle.host_rows.specs.declared.row.Row.{Row}
use Rattle.run_plan.specs.Plan.{nodes_of}
use Rattle.run_plan.specs.declared.host_row.HostRow.{HostRow}
use Rattle.run_plan.specs.declared.plan.Settings.{Settings}
use Rattle.run_plan.specs.declared.planned.Run.{Run}
use Rattle.shd_config.specs.declared.config.HostConfig.{HostConfig}
use Rattle.shd_config.specs.declared.config.ProcessConfig.{ProcessConfig}
use Rattle.shd_config.specs.declared.config.Variable.{Variable}

-- a variable of an environment as its process finds it: NAME=VALUE
abbrev pub variable_text : Variable → List ℕ
variable_text v = v.name ++ (codes "=" ++ v.value)

-- a process of a configuration, and its image by its place; its path is its first argument
abbrev pub process_of : ProcessConfig → ℕ → ProcessRow
process_of c image = record {
  path = c.path;
  image = image;
  arguments = c.path ∷ c.args;
  environment = map variable_text c.environment;
  start = c.start_time;
  shutdown = c.shutdown_time;
  shutdown_signal = c.shutdown_signal;
  expected = c.expected_final_state;
}

abbrev pub processes_of : List ProcessConfig → List ℕ → List ProcessRow
processes_of (c ∷ cs) (image ∷ images) = process_of c image ∷ processes_of cs images
processes_of _ _ = []

-- the capture size of a host whose packets are captured
abbrev pub capture_of : HostConfig → Option ℕ
capture_of config = if config.pcap_enabled then Some config.pcap_capture_size else None

-- a host of a plan, by its number
abbrev pub row_of : Settings → ℕ → HostRow → Row
row_of settings number h = record {
  host = record { index = number };
  name = h.config.name;
  address = h.address;
  bandwidth_up = h.rates.up;
  bandwidth_down = h.rates.down;
  router_queue = settings.router_queue;
  seed = settings.seed;
  processes = processes_of h.config.processes h.images;
  capture = capture_of h.config;
}

abbrev pub rows_from : Settings → ℕ → List HostRow → List Row
rows_from settings number [] = []
rows_from settings number (h ∷ hs) = row_of settings number h ∷ rows_from settings (number + 1) hs

-- the rows of a run: its hosts by their numbers, in the order of the plan
abbrev pub rows_of : Run → List Row
rows_of run = rows_from run.plan.settings 0 run.plan.rows

-- the book of all addresses, and the text of /etc/hosts
abbrev pub known_of : List HostRow → List ℕ → Known
known_of hosts text = record { book = map (λ (h : HostRow). h.address) hosts; hosts = text }

-- what is lent to all hosts
abbrev pub net_of : Run → Net
net_of run = record {
  routes = run.plan.routes;
  known = known_of run.plan.rows run.plan.hosts_text;
  nodes = nodes_of run.plan.rows;
  bootstrap_end = run.plan.settings.bootstrap_end_time;
  stop = run.plan.settings.stop_time;
  budget = run.budget;
  images = run.plan.images;
}

-- the greatest lookahead, which is past every stop
abbrev pub greatest_lookahead : ℕ
greatest_lookahead = 2 ^ 62

-- a lookahead, cut there
abbrev pub cut_lookahead : Option Time → Option Time
cut_lookahead None = None
cut_lookahead (Some time) = Some (record { nanos = min time.nanos greatest_lookahead })
