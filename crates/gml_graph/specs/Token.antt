-- Tokens: keys, numbers, texts and brackets.
use Rattle.std.specs.Prelude.{ℕ, Bool, ◌&&◌, ◌||◌, if◌then◌else◌, ◌==◌, List, Option, Some, None, codes}
use Rattle.std.specs.List.{list_all}
use Rattle.std.specs.Option.{option_map}
use Rattle.base_texts.specs.Quantity.{time_of_text, rate_of_text}
use Rattle.std.specs.Str.{bytes_eq}
use Rattle.std.specs.Char.{is_ascii_alphabetic, is_ascii_alphanumeric}
use Rattle.sim_base.specs.Ascii.{underscore}
use Rattle.gml_graph.specs.declared.number.Decimal.{Decimal}
use Rattle.gml_graph.specs.declared.token.Key.{Key}
use Rattle.gml_graph.specs.declared.token.Key.TheVariants as keys
use Rattle.gml_graph.specs.declared.token.Token.{Token}
use Rattle.gml_graph.specs.declared.token.Token.TheVariants.{Name, Number, Odd}
use Rattle.gml_graph.specs.declared.token.Quoted.{Quoted}
use Rattle.gml_graph.specs.Number.{begins_with, decimal}

-- a letter, a digit or _
abbrev pub is_key_byte : ℕ → Bool
is_key_byte b = is_ascii_alphanumeric b || b == underscore

-- a letter, and then letters, digits and _
abbrev pub is_key : List ℕ → Bool
is_key word = begins_with is_ascii_alphabetic word && list_all is_key_byte word

-- the key that a word is
unfoldable pub key_named : List ℕ → Key
key_named word =
    if bytes_eq word (codes "graph") then keys.Graph
    else (if bytes_eq word (codes "directed") then keys.Directed
    else (if bytes_eq word (codes "node") then keys.Node
    else (if bytes_eq word (codes "edge") then keys.Edge
    else (if bytes_eq word (codes "id") then keys.Id
    else (if bytes_eq word (codes "host_bandwidth_up") then keys.HostBandwidthUp
    else (if bytes_eq word (codes "host_bandwidth_down") then keys.HostBandwidthDown
    else (if bytes_eq word (codes "label") then keys.Label
    else (if bytes_eq word (codes "source") then keys.Source
    else (if bytes_eq word (codes "target") then keys.Target
    else (if bytes_eq word (codes "latency") then keys.Latency
    else (if bytes_eq word (codes "packet_loss") then keys.PacketLoss
    else (if bytes_eq word (codes "jitter") then keys.Jitter
    else keys.Other))))))))))))

abbrev pub number_token : Option Decimal → Token
number_token (Some d) = Number d
number_token None = Odd

-- the token that a word is: a key, a number, or nothing that can stand anywhere
unfoldable pub word_token : List ℕ → Token
word_token word = if is_key word then Name (key_named word) else number_token (decimal word)

-- what a text between quotes says
unfoldable pub quoted : List ℕ → Quoted
quoted text = record { time = option_map (λ nanos. record { nanos = nanos }) (time_of_text text); rate = rate_of_text text }
