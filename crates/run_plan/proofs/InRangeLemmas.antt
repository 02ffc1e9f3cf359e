-- The size of a self-load, and what words override, are in their ranges.
use Rattle.std.proofs.Common.{◌≡◌, ◌≤◌, ℕ, Bool, true, false, List, Option, IfSome, length, nat_lt, option_map, option_and_then, refl, ap, subst}
use Rattle.std.specs.Prelude.{Result, Ok, Err, Some, None, if◌then◌else◌, nat_le, ◌&&◌}
use Rattle.std.proofs.lemmas.Bool.{leb-true, ltb-true}
use Rattle.base_texts.specs.Quantity.{time_of_text}
use Rattle.sim_base.specs.declared.time.Time.{Time}
use Rattle.sim_base.specs.Refusals.{or_refuse}
use Rattle.command_line.specs.Asked.{asked, Chosen, chosen, subject_of, seed_of, parallelism_of, data_directory_of, stop_of, budget_of, number_within, is_decimal, if_within, read_option, some_text, stop_time_of}
use Rattle.command_line.specs.Asked.Chosen.{config, self_load, capture}
use Rattle.command_line.specs.Command.{found, config_of, value_of}
use Rattle.command_line.specs.declared.name.OptionName.TheVariants as option
use Rattle.command_line.specs.declared.asked.Asked.{Asked}
use Rattle.command_line.specs.declared.asked.Subject.{Subject}
use Rattle.command_line.specs.declared.asked.Subject.TheVariants.{File, SelfLoad, Capture}
use Rattle.command_line.specs.declared.fault.WordsFault.{WordsFault}
use Rattle.command_line.specs.declared.fault.WordsFault.TheVariants.{BadOption}
use Rattle.command_line.specs.declared.name.OptionName.{OptionName}
use Rattle.shd_config.specs.Limits.{IsSomeText, MayStop, MayOverride}
use Rattle.std.specs.Str.Parse.{digits_value}
use Rattle.sim_base.specs.Units.{latest_time}
use Rattle.sim_base.proofs.RefusalLemmas.{bind_ok_by}
use Rattle.run_plan.specs.InRange.{IsInRange, overrides_of}

within : (n hosts : ℕ) (fault : WordsFault) (low high : Bool) → nat_le 2 n ≡ low → nat_le n 4096 ≡ high → or_refuse (if low && high then Some n else None) fault ≡ Ok hosts → (2 ≤ hosts) × (hosts ≤ 4096)
within n hosts fault true true l h e = let same : n ≡ hosts = cc in subst (λ (m : ℕ). (2 ≤ m) × (m ≤ 4096)) same (leb-true 2 n l, leb-true n 4096 h)
within n hosts fault true false l h e = cc
within n hosts fault false high l h e = cc

number_range : (text : List ℕ) (hosts : ℕ) (fault : WordsFault) (decimal : Bool) → is_decimal text ≡ decimal
    → or_refuse (if decimal then if_within 2 4096 (digits_value 10 text) else None) fault ≡ Ok hosts → (2 ≤ hosts) × (hosts ≤ 4096)
number_range text hosts fault true d e = within (digits_value 10 text) hosts fault _ _ refl refl e
number_range text hosts fault false d e = cc

subject_range : (choice : Chosen) (s : Subject) → subject_of choice ≡ Ok s → IsInRange s
subject_range (config name) s e = let same : File name ≡ s = cc in subst IsInRange same tt
subject_range (self_load size) s e =
    bind_ok_by (or_refuse (number_within 2 4096 size) _) (λ hosts. Ok (SelfLoad hosts)) s (IsInRange s) e
    (λ hosts h k. let same : SelfLoad hosts ≡ s = cc in subst IsInRange same (number_range size hosts _ (is_decimal size) refl h))
subject_range (capture name) s e = let same : Capture name ≡ s = cc in subst IsInRange same tt

-- ---- what is overridden

abbrev Text : Type 0
Text = List ℕ

option_range : {A : Type 0} (P : A → Type 0) (fault : WordsFault) (r : Option A) (o : Option A) → IfSome r P → or_refuse (option_map (λ a. Some a) r) fault ≡ Ok o → IfSome o P
option_range {A} P fault None o h e = cc
option_range {A} P fault (Some a) o h e = let same : Some a ≡ o = cc in subst (λ (x : Option A). IfSome x P) same h

read_range : {A : Type 0} (P : A → Type 0) (name : OptionName) (read : Text → Option A) (given : Option Text) (o : Option A) → ((t : Text) → IfSome (read t) P) → read_option name read given ≡ Ok o → IfSome o P
read_range {A} P name read None o h e = let same : None ≡ o = cc in subst (λ (x : Option A). IfSome x P) same tt
read_range {A} P name read (Some text) o h e = option_range P (BadOption name) (read text) o (h text) e

some_text_by : (text : Text) (b : Bool) → nat_lt 0 (length text) ≡ b → IfSome (if b then Some text else None) IsSomeText
some_text_by text true e = ltb-true 0 (length text) e
some_text_by text false e = tt

abbrev as_time : Option ℕ → Option Time
as_time o = option_map (λ (n : ℕ). record { nanos = n }) o

time_by : (n : ℕ) (low high : Bool) → nat_le 1 n ≡ low → nat_le n latest_time ≡ high → IfSome (as_time (if low && high then Some n else None)) MayStop
time_by n true true l h = (leb-true 1 n l, leb-true n latest_time h)
time_by n true false l h = tt
time_by n false high l h = tt

stop_by : (o : Option ℕ) → IfSome (as_time (option_and_then (if_within 1 latest_time) o)) MayStop
stop_by None = tt
stop_by (Some n) = time_by n (nat_le 1 n) (nat_le n latest_time) refl refl

-- ---- what is asked

abbrev subject_in : Subject → Result Asked WordsFault → Subject
subject_in other (Ok a) = a.subject
subject_in other (Err fault) = other

abbrev directory_in : Option Text → Result Asked WordsFault → Option Text
directory_in other (Ok a) = a.data_directory
directory_in other (Err fault) = other

abbrev stop_in : Option Time → Result Asked WordsFault → Option Time
stop_in other (Ok a) = a.stop_time
stop_in other (Err fault) = other

pub record AreInRange (a : Asked) : Type 0 where
  pub subject : IsInRange a.subject
  pub overrides : MayOverride (overrides_of a)

pub asked_in_range : (words : List (List ℕ)) (a : Asked) → asked words ≡ Ok a → AreInRange a
unfolding asked
asked_in_range words a e =
    bind_ok_by (found words) _ a (AreInRange a) e (λ rows r0 e0.
    bind_ok_by (chosen (config_of rows) (value_of option.SelfLoad rows) (value_of option.ReadCapture rows)) _ a (AreInRange a) e0 (λ choice r1 e1.
    bind_ok_by (seed_of rows) _ a (AreInRange a) e1 (λ seed r2 e2.
    bind_ok_by (parallelism_of rows) _ a (AreInRange a) e2 (λ parallelism r3 e3.
    bind_ok_by (data_directory_of rows) _ a (AreInRange a) e3 (λ directory r4 e4.
    bind_ok_by (stop_of rows) _ a (AreInRange a) e4 (λ stop r5 e5.
    bind_ok_by (budget_of rows) _ a (AreInRange a) e5 (λ budget r6 e6.
    bind_ok_by (subject_of choice) _ a (AreInRange a) e6 (λ subject r7 e7.
    let same_subject : subject ≡ a.subject = ap (λ (r : Result Asked WordsFault). subject_in subject r) e7 in
    let same_directory : directory ≡ a.data_directory = ap (λ (r : Result Asked WordsFault). directory_in directory r) e7 in
    let same_stop : stop ≡ a.stop_time = ap (λ (r : Result Asked WordsFault). stop_in stop r) e7 in
    record {
      subject = subst IsInRange same_subject (subject_range choice subject r7);
      overrides = record {
        directory = subst (λ (o : Option Text). IfSome o IsSomeText) same_directory (read_range IsSomeText option.DataDirectory some_text (value_of option.DataDirectory rows) directory (λ t. some_text_by t (nat_lt 0 (length t)) refl) r4);
        stop = subst (λ (o : Option Time). IfSome o MayStop) same_stop (read_range MayStop option.StopTime stop_time_of (value_of option.StopTime rows) stop (λ t. stop_by (time_of_text t)) r5);
      };
    }))))))))
