use Rattle.std.proofs.Common.{sym, subst}
use Rattle.std.proofs.lemmas.Result.{on_ok_weaker}
use Rattle.sim_base.specs.declared.event.What.{What}
use Rattle.host_state.specs.Arriving.{is_handed_over, comes_in, down_comes}
use Rattle.host_state.specs.Fire.{acts, starts, goes, shuts, rings}
use Rattle.host_state.specs.Host.{on_wire}
use Rattle.host_link.specs.Sending.{up_comes}
use Rattle.host_state.specs.StandsFor.{Does}
use Rattle.host_state.proofs.host.Body.act.Goals as goal

pub returns-in-Start : goal.returns-in-Start
unfolding acts
returns-in-Start c =
    on_ok_weaker c.start.result
    (λ (d : Does (starts c.args.net.now c.in-Start.process) c.args.self.now c.start.new.self). subst (λ (w : What). Does (acts c.args.net.now w) c.args.self.now c.start.new.self) (sym c.in-Start.is) d)
    c.start.ensures

pub returns-in-Go : goal.returns-in-Go
unfolding acts
returns-in-Go c =
    on_ok_weaker c.go.result
    (λ (d : Does (goes c.args.net.now c.in-Go.process) c.args.self.now c.go.new.self). subst (λ (w : What). Does (acts c.args.net.now w) c.args.self.now c.go.new.self) (sym c.in-Go.is) d)
    c.go.ensures

pub returns-in-Shutdown : goal.returns-in-Shutdown
unfolding acts
returns-in-Shutdown c =
    on_ok_weaker c.shut_down.result
    (λ (d : Does (shuts c.args.net.now c.in-Shutdown.process) c.args.self.now c.shut_down.new.self). subst (λ (w : What). Does (acts c.args.net.now w) c.args.self.now c.shut_down.new.self) (sym c.in-Shutdown.is) d)
    c.shut_down.ensures

pub returns-in-Alarm : goal.returns-in-Alarm
unfolding acts
returns-in-Alarm c =
    on_ok_weaker c.ring.result
    (λ (d : Does (rings c.args.net.now c.in-Alarm.target c.in-Alarm.serial) c.args.self.now c.ring.new.self). subst (λ (w : What). Does (acts c.args.net.now w) c.args.self.now c.ring.new.self) (sym c.in-Alarm.is) d)
    c.ring.ensures

pub returns-in-Loop : goal.returns-in-Loop
unfolding acts
returns-in-Loop c =
    on_ok_weaker c.hand_over.result
    (λ (d : Does (is_handed_over c.args.net.now c.in-Loop.packet) c.args.self.now c.hand_over.new.self). subst (λ (w : What). Does (acts c.args.net.now w) c.args.self.now c.hand_over.new.self) (sym c.in-Loop.is) d)
    c.hand_over.ensures

pub returns-in-Up : goal.returns-in-Up
unfolding acts
returns-in-Up c =
    on_ok_weaker c.come_up.result
    (λ (d : Does (on_wire (up_comes c.args.net.now)) c.args.self.now c.come_up.new.self). subst (λ (w : What). Does (acts c.args.net.now w) c.args.self.now c.come_up.new.self) (sym c.in-Up.is) d)
    c.come_up.ensures

pub returns-in-Down : goal.returns-in-Down
unfolding acts
returns-in-Down c =
    on_ok_weaker c.come_down.result
    (λ (d : Does (down_comes c.args.net.now) c.args.self.now c.come_down.new.self). subst (λ (w : What). Does (acts c.args.net.now w) c.args.self.now c.come_down.new.self) (sym c.in-Down.is) d)
    c.come_down.ensures

pub returns-in-Packet : goal.returns-in-Packet
unfolding acts
returns-in-Packet c =
    on_ok_weaker c.come_in.result
    (λ (d : Does (comes_in c.args.net.now c.in-Packet.packet) c.args.self.now c.come_in.new.self). subst (λ (w : What). Does (acts c.args.net.now w) c.args.self.now c.come_in.new.self) (sym c.in-Packet.is) d)
    c.come_in.ensures
