-- The first step of a call is what its own case says.
use Rattle.std.proofs.Common.{◌≡◌, ℕ, ◌∙◌, ap, sym, subst, refl, List, Some, None, [], true, cond, ◌⊎◌, ⊎_elim}
use Rattle.keybits.specs.declared.step.Kind.TheVariants as kinds
use Rattle.keybits.specs.declared.step.Word.TheVariants as words
use Rattle.keybits.specs.Keys.{place_of, is_key}
use Rattle.steplaws.specs.Calls.{Call, Publishing, Getting, Releasing, Clearing, Creating, Caller, aim, next_step}
use Rattle.traces.specs.declared.script.Command.{Command}
use Rattle.traces.specs.Books.{Book, caller}
use Rattle.traces.proofs.StepCalls.{same_some}
use Rattle.coresteps.specs.declared.progress.Call.{Call as OwnCall}
use Rattle.coresteps.specs.declared.progress.Call.TheVariants.{Get, Clear}
use Rattle.coresteps.specs.declared.aims.Aim.{Aim as OwnAim}
use Rattle.coresteps.specs.Lanes.{IsCall, IsAim, written_since}
use Rattle.coresteps.proofs.AimLemmas.{aim_where, none_where}
use Rattle.coresteps.proofs.shared.Shared.first_step.Goals as goal

pub returns-in-Publish : goal.returns-in-Publish
returns-in-Publish c = λ w lane is draft at below none called.
    let p = c.in-Publish in
    let done : ℕ = c.args.progress.now.done in
    let b : Book = w.books c.args.number in
    let who : Caller = caller c.args.self.now.shape c.args.number b in
    let own : OwnAim = record { kind = kinds.Publish p.with_ref; word = words.Life c.place_of.result } in
    let same : is ≡ Publishing p.key (written_since lane.script p.created done p.register.number) p.with_ref
    = same_some is (Publishing p.key (written_since lane.script p.created done p.register.number) p.with_ref)
    (subst (λ (k : OwnCall). IsCall lane.script done b (Some k) (Some is)) p.is called).1 in
    subst (λ (k : Call). IsAim c.on_life.result (next_step who k [])) (sym same)
    (aim_where true c.on_life.result own (aim (kinds.Publish p.with_ref) (words.Life (place_of p.key))) refl c.on_life.ensures
    (ap (λ (n : ℕ). aim (kinds.Publish p.with_ref) (words.Life n)) c.place_of.ensures.place))

pub returns-in-Release : goal.returns-in-Release
returns-in-Release c = λ w lane is draft at below none called.
    let key : ℕ = c.in-Release.key in
    let b : Book = w.books c.args.number in
    let who : Caller = caller c.args.self.now.shape c.args.number b in
    let own : OwnAim = record { kind = kinds.Leave; word = words.Life c.place_of-in-Release.result } in
    let same : is ≡ Releasing key = same_some is (Releasing key)
    (subst (λ (k : OwnCall). IsCall lane.script c.args.progress.now.done b (Some k) (Some is)) c.in-Release.is called) in
    subst (λ (k : Call). IsAim c.on_life-in-Release.result (next_step who k [])) (sym same)
    (aim_where true c.on_life-in-Release.result own (aim kinds.Leave (words.Life (place_of key))) refl c.on_life-in-Release.ensures
    (ap (λ (n : ℕ). aim kinds.Leave (words.Life n)) c.place_of-in-Release.ensures.place))

pub returns-in-Create : goal.returns-in-Create
returns-in-Create c = λ w lane is draft at below none called.
    let b : Book = w.books c.args.number in
    let who : Caller = caller c.args.self.now.shape c.args.number b in
    let same : is ≡ Creating b.own b.chain b.opened = same_some is (Creating b.own b.chain b.opened)
    (subst (λ (k : OwnCall). IsCall lane.script c.args.progress.now.done b (Some k) (Some is)) c.in-Create.is called) in
    subst (λ (k : Call). IsAim c.first_of_create.result (next_step who k [])) (sym same) (c.first_of_create.ensures w lane draft at below none)

-- a get or a clear enters where the key fits
abbrev Enters : Caller → ℕ → Call → Type 0
Enters who key is = next_step who is [] ≡ cond (is_key who.shape key) (Some (aim kinds.Enter (words.Life (place_of key)))) None

enters : (script : List Command) (done : ℕ) (b : Book) (call : OwnCall) (who : Caller) (key : ℕ) (is : Call) → (call ≡ Get key) ⊎ (call ≡ Clear key)
    → IsCall script done b (Some call) (Some is) → Enters who key is
enters script done b call who key is which called = ⊎_elim
    (λ (gets : call ≡ Get key). subst (Enters who key)
    (sym (same_some is (Getting key) (subst (λ (k : OwnCall). IsCall script done b (Some k) (Some is)) gets called))) refl)
    (λ (clears : call ≡ Clear key). subst (Enters who key)
    (sym (same_some is (Clearing key) (subst (λ (k : OwnCall). IsCall script done b (Some k) (Some is)) clears called))) refl) which

pub returns-then-fits : goal.returns-then-fits
returns-then-fits c = λ w lane is draft at below none called.
    let key : ℕ = c.in-Get.key in
    let z = c.args.self.now.shape in
    let b : Book = w.books c.args.number in
    let who : Caller = caller z c.args.number b in
    let own : OwnAim = record { kind = kinds.Enter; word = words.Life c.place_of-then-fits.result } in
    subst (IsAim c.on_life-then-fits.result) (sym (enters lane.script c.args.progress.now.done b c.args.call who key is c.in-Get.is called))
    (aim_where (is_key z key) c.on_life-then-fits.result own (aim kinds.Enter (words.Life (place_of key))) (sym c.fits.ensures ∙ c.if-fits.true)
    c.on_life-then-fits.ensures (ap (λ (n : ℕ). aim kinds.Enter (words.Life n)) c.place_of-then-fits.ensures.place))

pub returns-else-fits : goal.returns-else-fits
returns-else-fits c = λ w lane is draft at below none called.
    let key : ℕ = c.in-Get.key in
    let z = c.args.self.now.shape in
    let b : Book = w.books c.args.number in
    enters lane.script c.args.progress.now.done b c.args.call (caller z c.args.number b) key is c.in-Get.is called
    ∙ none_where (is_key z key) (aim kinds.Enter (words.Life (place_of key))) (sym c.fits.ensures ∙ c.if-fits.false)
