-- What all hosts know of one another, and of the experiment.
use Rattle.std.specs.Prelude.{ℕ, List, refl}
use Rattle.std.specs.Coded.{Coded, code_by, coded×, coded_list, coded_ℕ}
use Rattle.sim_base.specs.declared.address.Ip.{Ip}
use Rattle.sim_base.specs.declared.time.Time.{Time}
use Rattle.elf_load.specs.ProgramImage.{ProgramImage, program_image_code}
use Rattle.file_calls.specs.declared.known.Known.{Known}
use Rattle.net_routes.specs.RouteMap.{RouteMap, route_map_code}

-- the routes between nodes and the node of each host; the book of addresses and the text of /etc/hosts; until when the network is set up, when
-- the experiment stops, how many instructions a process may run from one call to the next, and the images of programs
pub record Net : Type 0 where
  pub routes : RouteMap
  pub nodes : List ℕ
  pub known : Known
  pub bootstrap_end : Time
  pub stop : Time
  pub budget : ℕ
  pub images : List ProgramImage

-- how such values are stored, part by part
abbrev pub ip_code : Coded Ip
ip_code = code_by ℕ coded_ℕ (λ i. i.bits) (λ n. record { bits = n }) (λ _. refl)

abbrev pub known_code : Coded Known
known_code = code_by (List Ip × List ℕ) (coded× (coded_list ip_code) (coded_list coded_ℕ)) (λ k. (k.book, k.hosts)) (λ t. record { book = t.0; hosts = t.1 }) (λ _. refl)

abbrev pub time_code : Coded Time
time_code = code_by ℕ coded_ℕ (λ t. t.nanos) (λ n. record { nanos = n }) (λ _. refl)

abbrev pub net_code : Coded Net
net_code =
    code_by
    (RouteMap × (List ℕ × (Known × (Time × (Time × (ℕ × List ProgramImage))))))
    (coded× route_map_code (coded× (coded_list coded_ℕ) (coded× known_code (coded× time_code (coded× time_code (coded× coded_ℕ (coded_list program_image_code)))))))
    (λ n. (n.routes, (n.nodes, (n.known, (n.bootstrap_end, (n.stop, (n.budget, n.images)))))))
    (λ t. record { routes = t.0; nodes = t.1.0; known = t.1.1.0; bootstrap_end = t.1.1.1.0; stop = t.1.1.1.1.0; budget = t.1.1.1.1.1.0; images = t.1.1.1.1.1.1 })
    (λ _. refl)
