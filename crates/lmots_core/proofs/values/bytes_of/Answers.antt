use Rattle.std.proofs.Common.{rules, ◌≡◌, ◌∙◌, sym, refl, arith}
use Rattle.std.proofs.lemmas.List.{take_all}
use Rattle.std.proofs.lemmas.Slice.{overwrites}
use Rattle.sha2.specs.Sha256.{digest_bytes}
use Rattle.sha2.proofs.Absorbing256.{digest_more}
use Rattle.lmots_core.proofs.values.bytes_of.Goals as goal

pub words-init : goal.words-init
unfolding digest_bytes
words-init c = record { len = refl; written = refl }

pub words-preserved : goal.words-preserved
words-preserved c = record {
  len = search (rules, overwrites);
  written =
      digest_more c.words.bytes c.args.words.now c.copy_from_slice.new.self c.words.k _ c.words.invariant.written (omega arith)
      (c.copy_from_slice.ensures.after ∙ c.to_be_bytes.ensures);
}

pub returns : goal.returns
returns c =
    let done : c.words.k ≡ 8 = omega arith in
    sym (take_all 32 c.words.bytes (omega arith)) ∙ rw done at c.words.invariant.written
