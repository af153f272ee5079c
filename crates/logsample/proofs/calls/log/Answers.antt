-- The place has the room of its entry, which is no smaller than it was, and holds the path.
use Rattle.std.proofs.Common.{◌∙◌, subst, ◌≤◌, ◌≡◌, ℕ, false, List, [], ◌∷◌, sym, arith}
use Rattle.seqpool.specs.declared.act.Act.TheVariants.{Publish}
use Rattle.steplaws.specs.Calls.Call.{Publishing}
use Rattle.shardpool.specs.Lanes.{Calls, Did}
use Rattle.poollaws.specs.Rooms.{KnowsRoom}
use Rattle.logsample.specs.Histories.{IsNext}
use Rattle.logsample.specs.Requests.{numbers_of}
use Rattle.logsample.proofs.calls.log.Goals as goal

pub returns-in-Some-clause-room : goal.returns-in-Some-clause-room
returns-in-Some-clause-room g c = rw c.publish.ensures.key (c.room_kept_law.ensures.less c.publish.new.self.lane _ _ _ c.publish.ensures.room c.in-Some.ensures.roomy)

pub returns-in-Some-clause-reused : goal.returns-in-Some-clause-reused
returns-in-Some-clause-reused g c = λ last size known next.
    let same : c.publish.result ≡ c.in-Ok.filling.key = c.publish.ensures.key ∙ c.in-Some.ensures.key in
    let first : size ≤ c.in-Ok.filling.object.path.room = c.in-Ok.ensures.room last size known (subst (λ (key : ℕ). IsNext key last) same next) in
    let kept = c.in-Some.ensures.room in
    rw c.publish.ensures.key (c.room_kept_law.ensures.less c.publish.new.self.lane _ _ _ c.publish.ensures.room (omega (arith, first, kept)))

pub returns-in-Some-clause-logs : goal.returns-in-Some-clause-logs
returns-in-Some-clause-logs g c =
    let made = c.in-Ok.ensures in
    let old = c.create.new.self.lane in
    let new = c.publish.new.self.lane in
    let written : List ℕ = numbers_of c.args.request.now in
    let is = c.publish.ensures.key in
    let same = c.in-Some.ensures.content in record {
      between = old;
      filling = c.in-Ok.filling;
      gives = made.gives;
      key_is = is ∙ c.in-Some.ensures.key;
      object = c.in-Some.filled.object;
      holds = same;
      called = subst (λ (key : ℕ). Calls g.N.PoolName.pool.shape (Publishing key written false) old.book new.book) (sym is)
          (subst (λ (content : List ℕ). Calls g.N.PoolName.pool.shape (Publishing c.in-Some.filled.key content false) old.book new.book) same c.publish.ensures.called);
      publishes = subst (λ (number : ℕ). Did (Publish number c.publish.result written false ∷ []) old new) c.create.ensures.number
          (subst (λ (key : ℕ). Did (Publish old.number key written false ∷ []) old new) (sym is)
          (subst (λ (content : List ℕ). Did (Publish old.number c.in-Some.filled.key content false ∷ []) old new) same c.publish.ensures.publishes));
      knows = subst (λ (key : ℕ). KnowsRoom new key c.in-Some.filled.object.path.room) (sym is) c.publish.ensures.room;
    }

pub returns-in-Some-clause-keeps : goal.returns-in-Some-clause-keeps
returns-in-Some-clause-keeps g c =
    let first = c.create.ensures.keeps in record {
      fillings = λ other made. c.publish.ensures.fillings other
          (λ same. c.in-Ok.ensures.apart other made (same ∙ c.in-Some.ensures.key)) (first.fillings other made);
      held = λ key. c.publish.ensures.held key ∙ first.held key;
    }

pub returns-in-Some-clause-goes : goal.returns-in-Some-clause-goes
returns-in-Some-clause-goes g c = c.goes_on_law.ensures _ c.create.new.self.lane _ c.in-Ok.ensures.goes c.publish.ensures.goes
