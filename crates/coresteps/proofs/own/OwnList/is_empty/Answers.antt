-- Where a part of the list is left, the list is not empty.
use Rattle.std.proofs.Common.{◌≡◌, ◌≢◌, Bool, true, false, [], sym, ◌∙◌, subst, arith, eq-eqb}
use Rattle.std.specs.Bool.{MatchBool}
use Rattle.std.proofs.lemmas.Bool.{le-leb}
use Rattle.coresteps.specs.OwnLists.{own_places}
use Rattle.coresteps.proofs.OwnLemmas.{all_done}
use Rattle.coresteps.proofs.own.OwnList.is_empty.Goals as goal
use Rattle.coresteps.proofs.own.OwnList.is_empty.Goals.{then-self-eq0, else-self-eq0, then-none_unused, else-none_unused}

pub returns-else-self-eq0-2 : goal.returns-else-self-eq0-2
returns-else-self-eq0-2 c = λ lane ring list.
    let places = own_places c.args.shape.now lane ring c.args.self.now in
    subst (λ (t : Bool). MatchBool t (places ≡ []) (places ≢ [])) (sym c.if-self-eq0-2.false) (λ (none : places ≡ []).
    let done = all_done c.args.shape.now lane ring c.args.self.now none in
    let unused : c.if-self-eq0.none_unused ≡ true = elim c.if-self-eq0.branch [
      | then-self-eq0 w ↦ w.none_unused-is ∙ eq-eqb c.args.self.now.opened 0 w.if-self-eq0.true
      | else-self-eq0 w ↦ w.none_unused-is
          ∙ (let le = done.0 w.if-self-eq0.false in le-leb w.page_size.result c.args.self.now.unused (omega (arith, w.page_size.ensures)))
    ] in
    let value : c.if-none_unused.value ≡ true = elim c.if-none_unused.branch [
      | then-none_unused v ↦ v.value-is ∙ eq-eqb c.args.self.now.length 0 done.1
      | else-none_unused v ↦ v.value-is ∙ unused
    ] in
    let bad : true ≡ false = sym value ∙ c.if-self-eq0-2.false in absurd (cc bad))
