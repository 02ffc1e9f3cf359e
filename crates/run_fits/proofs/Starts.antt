-- the memory that a process starts with
use Rattle.std.proofs.Common.{List, [], arith, ℕ, ◌++◌, ◌∷◌}
use Rattle.elf_load.specs.ProgramImage.{ProgramImage}
use Rattle.guest_mem.specs.Memory.{low_bytes}
use Rattle.guest_mem.specs.Opening.{opening}
use Rattle.guest_process.specs.Start.{start_memory, start_words, texts_at, texts_bytes, word_bytes}
use Rattle.pcap_text.specs.Laws.{IsByte}
use Rattle.run_fits.proofs.Bytes.{all_append, all_flat_map, low_are}
use Rattle.run_fits.proofs.Memories.{opened_in, put_all_in}
use Rattle.run_fits.specs.Bytes.{AreBytes, AreTexts, CellsHaveBytes, HasBytes}
use Rattle.rv32_machine.specs.Word.{word_size}

texts_are : (texts : List (List ℕ)) → AreTexts texts → AreBytes (texts_bytes texts)
texts_are [] h = tt
texts_are (text ∷ texts) h =
    all_append IsByte (text ++ 0 ∷ []) (texts_bytes texts) (all_append IsByte text (0 ∷ []) h.0 (omega arith, tt)) (texts_are texts h.1)

pub start_in : (image : ProgramImage) (arguments environment : List (List ℕ)) → CellsHaveBytes image.cells → AreTexts arguments → AreTexts environment → HasBytes (start_memory image arguments environment)
unfolding start_memory
start_in image arguments environment h a e =
    let texts = arguments ++ environment in
    put_all_in _ _ (word_bytes (start_words arguments environment))
    (all_flat_map IsByte (low_bytes word_size) (start_words arguments environment) (λ n. low_are word_size n))
    (put_all_in (opening image).cells (texts_at texts) (texts_bytes texts) (texts_are texts (all_append AreBytes arguments environment a e)) (opened_in image h))
