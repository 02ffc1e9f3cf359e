-- What a host made is handed on: its events, then lines, then outputs.
use Rattle.std.proofs.Common.{ℕ, List, ◌++◌, map, ap, ◌∙◌, Vec, Global}
use Rattle.sim_base.specs.declared.event.Event.{Event}
use Rattle.sim_base.specs.declared.event.Parcel.{Parcel}
use Rattle.sim_base.specs.declared.key.Key.{Key}
use Rattle.file_calls.specs.declared.task.Output.{Output}
use Rattle.host_link.specs.declared.line.Logged.{Logged}
use Rattle.host_link.specs.declared.outbox.Made.{Made}
use Rattle.host_link.specs.declared.outbox.Outbox.{Outbox}
use Rattle.host_link.specs.Net.{Net}
use Rattle.host_link.specs.Handing.{HandsAllOn, HandsOn}
use Rattle.host_link.specs.Outbox.{AddsLines, AddsOutputs, logged}

pub all_handed_on : (net : Net) (host : ℕ) (key : Key) (made : Made) (held now : List Event) (before posted kept after : Outbox)
    → HandsOn net host made.events.items held now before posted → AddsLines key made.lines.items posted kept → AddsOutputs made.outputs.items kept after
    → HandsAllOn net host key made held now before after
all_handed_on net host key made held now before posted kept after on lines outputs = record {
  queue = on.queue;
  parcels = ap (λ (v : Vec Parcel Global). v.items) (outputs.parcels ∙ lines.parcels) ∙ on.parcels;
  lines = ap (λ (v : Vec Logged Global). v.items) outputs.lines
      ∙ (lines.lines ∙ ap (λ (v : Vec Logged Global). v.items ++ map (logged key) made.lines.items) on.lines);
  outputs = outputs.outputs ∙ ap (λ (v : Vec Output Global). v.items ++ made.outputs.items) (lines.outputs ∙ on.outputs);
}
