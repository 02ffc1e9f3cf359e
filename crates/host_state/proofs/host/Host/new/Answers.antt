use Rattle.std.proofs.Common.{◌≡◌, ℕ, List, [], length, replicate, ap, ◌∙◌, subst, refl}
use Rattle.host_draws.specs.Draws.{host_generator}
use Rattle.host_calls.specs.Parts.{PartsStand}
use Rattle.host_calls.specs.Starting.{no_parts}
use Rattle.guest_process.specs.declared.process.Process.TheVariants as process
use Rattle.host_rows.specs.declared.row.ProcessRow.{ProcessRow}
use Rattle.host_link.specs.Beginning.{begins_all}
use Rattle.host_link.specs.Handing.{with_events}
use Rattle.host_link.specs.Link.{LinkState, new_link, without_made}
use Rattle.host_state.proofs.Hosts.{no_outputs}
use Rattle.host_state.proofs.host.Host.new.Goals as goal

pub returns : goal.returns
returns c =
    let rows : List ProcessRow = c.args.row.processes in
    let whole : LinkState = begins_all 0 rows (new_link c.args.row) in
    let grown : begins_all 0 c.as_slice.result.now c.new-link.result ≡ whole =
    ap (λ (rs : List ProcessRow). begins_all 0 rs c.new-link.result) c.as_slice.ensures ∙ ap (begins_all 0 rows) c.new-link.ensures in
    let count : length c.as_slice-count.result.now ≡ length rows = ap length c.as_slice-count.ensures in
    let counted : PartsStand c.in_ok-parts.parts (no_parts c.args.row.address c.draws-draws.result (length rows)) =
    subst (λ (n : ℕ). PartsStand c.in_ok-parts.parts (no_parts c.args.row.address c.draws-draws.result n)) count c.in_ok-parts.ensures in
    let parts : PartsStand c.in_ok-parts.parts (no_parts c.args.row.address (host_generator c.args.row.seed c.args.row.host.index) (length rows)) =
    subst (λ (g : List ℕ). PartsStand c.in_ok-parts.parts (no_parts c.args.row.address g (length rows))) c.draws-draws.ensures counted in
    record {
      host = record {
        body = record {
          row = refl;
          link = c.in_ok-queue.ensures.rest ∙ ap without_made grown;
          processes = c.in_ok-processes.ensures ∙ ap (λ (n : ℕ). replicate n process.NotStarted) count;
          parts = parts;
        };
        made = refl;
        lines = refl;
        outputs = no_outputs c.args.row.address (host_generator c.args.row.seed c.args.row.host.index) (length rows);
      };
      queue = c.in_ok-queue.ensures.made ∙ ap (λ (l : LinkState). with_events l.made []) grown;
    }
