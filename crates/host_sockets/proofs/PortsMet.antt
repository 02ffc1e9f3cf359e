-- a port that no end has is met by no socket that is bound
use Rattle.std.proofs.Common.{◌≡◌, ℕ, ◌==◌, List, [], ◌∷◌, Bool, false, Option, Some, None, option_map, if◌then◌else◌, refl, sym, ap, subst, ◌∙◌}
use Rattle.std.specs.List.{flat_map}
use Rattle.std.proofs.lemmas.Bool.{or_from, or_parts, eq-eqb}
use Rattle.std.proofs.lemmas.List.Folds.{list_any-append}
use Rattle.sim_base.specs.declared.address.Ip.{Ip}
use Rattle.sim_base.specs.declared.address.Addr.{Addr}
use Rattle.sim_base.specs.Addresses.{at_port, has_port, least_free_port, at_free_port, with_port, is_taken, first_given_port, given_ports}
use Rattle.sim_base.specs.AddressLaws.{first_free_port_IsLeastFree, has_port_meets}
use Rattle.host_sockets.specs.Sockets.{SocketsRecord, bound_ends, tcp_ends}
use Rattle.host_sockets.specs.TcpSocket.{TcpSocket, ends_of, bound_end, record_end}

bound_has : (port : ℕ) (sockets : List TcpSocket) → has_port (flat_map ends_of sockets) port ≡ false → has_port (flat_map (λ (s : TcpSocket). bound_end s.bound) sockets) port ≡ false
bound_has port [] e = refl
bound_has port (s ∷ sockets) e =
    let all = or_parts _ _ (sym (list_any-append (λ (at : Addr). at.port == port) (ends_of s) (flat_map ends_of sockets)) ∙ e) in
    let own = or_parts _ _ (sym (list_any-append (λ (at : Addr). at.port == port) (bound_end s.bound) (record_end s.tcb)) ∙ all.0) in
    list_any-append (λ (at : Addr). at.port == port) (bound_end s.bound) (flat_map (λ (x : TcpSocket). bound_end x.bound) sockets) ∙ or_from _ _ own.0 (bound_has port sockets all.1)

free_met : (t : SocketsRecord) (ip : Ip) (end : Addr) (found : Option ℕ) → least_free_port (tcp_ends t) ≡ found → option_map (at_port ip) found ≡ Some end → is_taken (bound_ends t) end ≡ false
free_met t ip end None is e = cc
free_met t ip end (Some port) is e =
    let same : at_port ip port ≡ end = cc in
    let free = (first_free_port_IsLeastFree (tcp_ends t) first_given_port given_ports port is).free in
    subst (λ (x : Addr). is_taken (bound_ends t) x ≡ false) same (has_port_meets ip port (bound_ends t) (bound_has port t.tcp free))

pub none_met : (t : SocketsRecord) (at end : Addr) → at.port ≡ 0 → with_port (tcp_ends t) at ≡ Some end → false ≡ is_taken (bound_ends t) end
none_met t at end zero e =
    sym (free_met t at.ip end (least_free_port (tcp_ends t)) refl (sym (ap (λ (b : Bool). if b then at_free_port (tcp_ends t) at.ip else Some at) (eq-eqb at.port 0 zero)) ∙ e))
