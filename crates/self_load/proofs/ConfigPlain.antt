-- The configuration of a self-load is plain.
use Rattle.std.proofs.Common.{◌≡◌, ℕ, zero, suc, ◌+◌, ◌/◌, ◌%◌, ◌<◌, ◌≤◌, true, List, [], ◌∷◌, map, codes, decimal, refl, ap, ◌∙◌, arith, mod-lt}
use Rattle.std.specs.List.{All, range_with_len, list_all}
use Rattle.std.specs.Prelude.{nat_lt}
use Rattle.std.specs.Str.{IsUtf8}
use Rattle.std.proofs.lemmas.Bool.Decides.{nat_tests}
use Rattle.std.proofs.lemmas.Fmt.{IsAscii-decimal}
use Rattle.std.proofs.lemmas.List.Elements.{All-nil, All-cons}
use Rattle.std.proofs.lemmas.List.FromFn.{length-map-range_with_len}
use Rattle.std.proofs.lemmas.Str.{IsUtf8-from_ascii}
use Rattle.shd_values.specs.Word.{is_name_byte, is_name_of_host}
use Rattle.shd_config.specs.declared.config.HostConfig.{HostConfig}
use Rattle.shown_config.specs.Plain.{AreApart, IsPlainProcess, IsPlainHost, IsPlain}
use Rattle.shown_config.specs.Same.{no_overrides}
use Rattle.run_plan.specs.SelfLoad.{host_name, next_host, address_number, ring_process, ring_host, self_load_config}
use Rattle.run_plan.proofs.LimitLemmas.{small_address, few_bytes, each_ring_host}
use Rattle.run_plan.proofs.NameLemmas.{host_name_is, host_names_differ}
use Rattle.self_load.proofs.AsciiTexts.{ascii}

words : (text : List ℕ) → list_all (λ b. nat_lt b 128) text ≡ true → IsUtf8 text
words text h = IsUtf8-from_ascii text (ascii text h)

argument : (next : ℕ) → next < 4096 → IsUtf8 (decimal (address_number next))
argument next h = let small = small_address next h in IsUtf8-from_ascii _ (IsAscii-decimal (address_number next) (omega (arith, small)))

plain_process : (next : ℕ) → next < 4096 → IsPlainProcess (ring_process next)
plain_process next h = record {
  path = words (codes "ring") refl;
  program = refl;
  args = All-cons IsUtf8 (decimal (address_number next)) [] (argument next h) (All-nil IsUtf8);
  environment = All-nil _;
  apart = tt;
  start = omega arith;
  shutdown = tt;
  state = omega arith;
  few = few_bytes next h;
}

digit_of_name : (d : ℕ) → d < 10 → is_name_byte (48 + d) ≡ true
digit_of_name d h = grind (arith, nat_tests)

name_of : (a b c d : ℕ) → a < 10 → b < 10 → c < 10 → d < 10 → is_name_of_host (104 ∷ (48 + a) ∷ (48 + b) ∷ (48 + c) ∷ (48 + d) ∷ []) ≡ true
name_of a b c d ha hb hc hd = rw (digit_of_name a ha, digit_of_name b hb, digit_of_name c hc, digit_of_name d hd) refl

plain_name : (i : ℕ) → is_name_of_host (host_name i) ≡ true
plain_name i =
    ap is_name_of_host (host_name_is i)
    ∙ name_of (i / 1000 % 10) (i / 100 % 10) (i / 10 % 10) (i % 10) (mod-lt (i / 1000) (omega arith)) (mod-lt (i / 100) (omega arith)) (mod-lt (i / 10) (omega arith)) (mod-lt i (omega arith))

plain_host : (n i : ℕ) → i < n → n ≤ 4096 → IsPlainHost (ring_host n i)
plain_host n i h few = record {
  name = plain_name i;
  node = omega arith;
  address = tt;
  up = (omega arith, omega arith);
  down = (omega arith, omega arith);
  capture = (omega arith, omega arith);
  few = omega arith;
  processes = All-cons IsPlainProcess (ring_process (next_host n i)) [] (plain_process (next_host n i) (let next : (i + 1) % n < n = mod-lt (i + 1) (omega arith) in omega (arith, next))) (All-nil IsPlainProcess);
}

-- ---- names

abbrev names_from : ℕ → ℕ → ℕ → List (List ℕ)
names_from n a k = map (λ (h : HostConfig). h.name) (map (ring_host n) (range_with_len a k))

abbrev IsOther : ℕ → List ℕ → Type 0
IsOther a name = ¬ (name ≡ host_name a)

others : (n k b a : ℕ) → a < b → b + k ≤ 10000 → All (IsOther a) (names_from n b k)
others n zero b a h few = All-nil (IsOther a)
others n (suc k) b a h few =
    All-cons (IsOther a) (host_name b) (names_from n (b + 1) k)
    (λ e. let same = host_names_differ b a (omega arith) (omega arith) e in omega (arith, same))
    (others n k (b + 1) a (omega arith) (omega arith))

apart : (n k a : ℕ) → a + k ≤ 10000 → AreApart (names_from n a k)
apart n zero a few = tt
apart n (suc k) a few = (others n k (a + 1) a (omega arith) (omega arith), apart n k (a + 1) (omega arith))

pub plain : (n : ℕ) → 0 < n → n ≤ 4096 → IsPlain (self_load_config no_overrides n)
unfolding self_load_config
plain n some few =
    let count = length-map-range_with_len (ring_host n) 0 n in
    record {
      stop = (omega arith, omega arith);
      seed = omega arith;
      parallelism = omega arith;
      bootstrap = omega arith;
      directory = words (codes "shadow.data") refl;
      named = omega arith;
      graph = words (codes "graph.gml") refl;
      few = (omega (arith, count), omega (arith, count));
      hosts = each_ring_host IsPlainHost n (λ i h. plain_host n i h few);
      apart = apart n n 0 (omega arith);
    }
