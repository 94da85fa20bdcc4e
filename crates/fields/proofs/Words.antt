-- A word of three bytes or more is no relation's.
use Rattle.std.proofs.Common.{◌≡◌, ℕ, ◌<◌, ◌≤◌, false, List, length, Err, sym, ap, ◌∙◌, arith}
use Rattle.std.proofs.lemmas.Bool.{cond-false}
use Rattle.parts.specs.declared.part.Relation.TheVariants.{Lt, Le, Eq, Ge, Gt}
use Rattle.lexical.specs.declared.fault.Place.{Place}
use Rattle.lexical.specs.declared.fault.LineFault.TheVariants.{UnknownWord}
use Rattle.lexical.specs.declared.fault.SequenceFault.TheVariants.{Line}
use Rattle.lexical.specs.Bytes.{same}
use Rattle.lexical.specs.Fields.{relation_of, relation_word, strictness_of}
use Rattle.lexical.proofs.Parting.{same_false}

longer : (bs cs : List ℕ) → length cs < length bs → same bs cs ≡ false
longer bs cs h = same_false bs cs (λ e. absurd (omega (arith, ap length e)))

module _ (at : Place) (bs : List ℕ) (h : 3 ≤ length bs) where
  pub no_relation : Err (Line (UnknownWord at)) ≡ relation_of at bs
  no_relation =
      sym (cond-false _ _ _ (longer bs (relation_word Lt) h) ∙ (cond-false _ _ _ (longer bs (relation_word Le) h) ∙ (cond-false _ _ _ (longer bs (relation_word Eq) h)
      ∙ (cond-false _ _ _ (longer bs (relation_word Ge) h) ∙ cond-false _ _ _ (longer bs (relation_word Gt) h)))))

  pub no_strictness : Err (Line (UnknownWord at)) ≡ strictness_of at bs
  no_strictness = sym (cond-false _ _ _ (longer bs (relation_word Lt) h) ∙ cond-false _ _ _ (longer bs (relation_word Le) h))
