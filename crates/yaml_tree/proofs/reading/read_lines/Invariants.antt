use Rattle.std.proofs.Common.{◌≡◌, ◌+◌, ◌≤◌, ◌&&◌, length, false, None}
use Rattle.std.specs.List.{list_all}
use Rattle.yaml_tokens.specs.Lines.{split_lines}
use Rattle.yaml_tokens.specs.Tokens.{tokens_from}
use Rattle.yaml_tree.specs.inside.Builder.{read_lines}
use Rattle.yaml_tree.specs.Tree.{is_empty_document}
use Rattle.yaml_tree.specs.Written.{is_name}
use Rattle.yaml_tokens.specs.declared.place.LinePlace.TheVariants.{Outside}
use Rattle.yaml_tree.proofs.reading.read_lines.Given as goal

abbrev pub invariant-loop-rest : goal.invariant-loop-rest
invariant-loop-rest l = record {
  read : read_lines l.begun l.place l.number (split_lines l.rest) l.builder ≡ read_lines false (Outside None) 1 (split_lines l.text) l.initial.builder;
  within : l.number + length l.rest ≤ 1 + length l.text;
  counted : 1 ≤ l.number;
  names : (l.empty && list_all is_name (tokens_from l.begun l.place l.number (split_lines l.rest))) ≡ is_empty_document (split_lines l.text);
}

abbrev pub decreases-loop-rest : goal.decreases-loop-rest
decreases-loop-rest l = length l.rest
