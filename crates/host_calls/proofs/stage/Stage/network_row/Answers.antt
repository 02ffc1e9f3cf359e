-- Each call has its row.
use Rattle.std.proofs.Common.{sym, subst}
use Rattle.call_parts.specs.declared.call.NetworkCall.{NetworkCall}
use Rattle.host_calls.specs.Calls.{network_row}
use Rattle.host_calls.specs.inside.Stage.{Acts}
use Rattle.host_calls.proofs.stage.Stage.network_row.Goals as goal

pub returns-in-Socket : goal.returns-in-Socket
returns-in-Socket c =
    let s = c.args.self.now in
    subst (λ (w : NetworkCall). Acts (network_row s.known.now s.time w c.args.args) s c.socket.new.self c.socket.result) (sym c.in-Socket.is) c.socket.ensures

pub returns-in-Bind : goal.returns-in-Bind
returns-in-Bind c =
    let s = c.args.self.now in
    subst (λ (w : NetworkCall). Acts (network_row s.known.now s.time w c.args.args) s c.bind.new.self c.bind.result) (sym c.in-Bind.is) c.bind.ensures

pub returns-in-Listen : goal.returns-in-Listen
returns-in-Listen c =
    let s = c.args.self.now in
    subst (λ (w : NetworkCall). Acts (network_row s.known.now s.time w c.args.args) s c.listen.new.self c.listen.result) (sym c.in-Listen.is) c.listen.ensures

pub returns-in-Getsockname : goal.returns-in-Getsockname
returns-in-Getsockname c =
    let s = c.args.self.now in
    subst (λ (w : NetworkCall). Acts (network_row s.known.now s.time w c.args.args) s c.getsockname.new.self c.getsockname.result) (sym c.in-Getsockname.is) c.getsockname.ensures

pub returns-in-Getpeername : goal.returns-in-Getpeername
returns-in-Getpeername c =
    let s = c.args.self.now in
    subst (λ (w : NetworkCall). Acts (network_row s.known.now s.time w c.args.args) s c.getpeername.new.self c.getpeername.result) (sym c.in-Getpeername.is) c.getpeername.ensures

pub returns-in-Getsockopt : goal.returns-in-Getsockopt
returns-in-Getsockopt c =
    let s = c.args.self.now in
    subst (λ (w : NetworkCall). Acts (network_row s.known.now s.time w c.args.args) s c.getsockopt.new.self c.getsockopt.result) (sym c.in-Getsockopt.is) c.getsockopt.ensures

pub returns-in-Shutdown : goal.returns-in-Shutdown
returns-in-Shutdown c =
    let s = c.args.self.now in
    subst (λ (w : NetworkCall). Acts (network_row s.known.now s.time w c.args.args) s c.shutdown.new.self c.shutdown.result) (sym c.in-Shutdown.is) c.shutdown.ensures
