-- Rates that are found one after another.
use Rattle.std.proofs.Common.{◌≡◌, ◌∙◌, ◌+◌, ◌≤◌, List, [], ◌∷◌, ◌++◌, ℕ, length, drop, refl, ap, sym}
use Rattle.std.proofs.lemmas.List.{at_drop_all, append-nil}
use Rattle.std.specs.Prelude.{Ok, Err}
use Rattle.std.specs.Option.{option_to_list}
use Rattle.sim_base.specs.declared.address.Ip.{Ip}
use Rattle.gml_graph.specs.declared.graph.Node.{Node}
use Rattle.shd_config.specs.declared.config.HostConfig.{HostConfig}
use Rattle.run_plan.specs.Rates.{rates_of, rates_behind}
use Rattle.run_plan.specs.declared.fault.Fault.{Fault}
use Rattle.run_plan.specs.declared.rates.Rates.{Rates}
use Rattle.run_plan.proofs.StepLemmas.{ahead, ahead_then, ahead_more}

pub one_more_rate : (file : List ℕ) (nodes : List Node) (earlier : List Ip) (all : List Rates) (h : HostConfig) (hs : List HostConfig) (r : Rates)
    → rates_of file nodes earlier h ≡ Ok r
    → ahead all (rates_behind file nodes earlier (h ∷ hs)) ≡ ahead (all ++ r ∷ []) (rates_behind file nodes (earlier ++ option_to_list h.ip_addr) hs)
one_more_rate file nodes earlier all h hs r e =
    rw e (ap (ahead all) (ahead_then r (rates_behind file nodes (earlier ++ option_to_list h.ip_addr) hs)) ∙ ahead_more all r (rates_behind file nodes (earlier ++ option_to_list h.ip_addr) hs))

pub rate_refused : (file : List ℕ) (nodes : List Node) (earlier : List Ip) (all : List Rates) (h : HostConfig) (hs : List HostConfig) (f : Fault)
    → rates_of file nodes earlier h ≡ Err f → ahead all (rates_behind file nodes earlier (h ∷ hs)) ≡ Err f
rate_refused file nodes earlier all h hs f e = rw e refl

-- ---- the loop over hosts, which comes to the one at i

module _ (file : List ℕ) (nodes : List Node) (hosts : List HostConfig) (i : ℕ) (earlier : List Ip) (all : List Rates)
    (inv : ahead all (rates_behind file nodes earlier (drop i hosts)) ≡ rates_behind file nodes [] hosts) where
  pub rates_stop : (h : HostConfig) (f : Fault) → drop i hosts ≡ h ∷ drop (i + 1) hosts → rates_of file nodes earlier h ≡ Err f → rates_behind file nodes [] hosts ≡ Err f
  rates_stop h f at e = sym inv ∙ (ap (λ (hs : List HostConfig). ahead all (rates_behind file nodes earlier hs)) at ∙ rate_refused file nodes earlier all h (drop (i + 1) hosts) f e)

  pub rates_read : (h : HostConfig) (r : Rates) → drop i hosts ≡ h ∷ drop (i + 1) hosts → rates_of file nodes earlier h ≡ Ok r
      → ahead (all ++ r ∷ []) (rates_behind file nodes (earlier ++ option_to_list h.ip_addr) (drop (i + 1) hosts)) ≡ rates_behind file nodes [] hosts
  rates_read h r at e =
      sym (one_more_rate file nodes earlier all h (drop (i + 1) hosts) r e) ∙ (ap (λ (hs : List HostConfig). ahead all (rates_behind file nodes earlier hs)) (sym at) ∙ inv)

  pub rates_end : length hosts ≤ i → rates_behind file nodes [] hosts ≡ Ok all
  rates_end h =
      sym inv ∙ (ap (λ (hs : List HostConfig). ahead all (rates_behind file nodes earlier hs)) (at_drop_all (λ (hs : List HostConfig). hs) hosts i h) ∙ ap Ok (append-nil all))
