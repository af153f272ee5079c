use Rattle.std.proofs.Common.{ℕ, ◌<◌, List, sym, subst}
use Rattle.seqpool.specs.declared.act.Act.{Act}
use Rattle.seqpool.specs.declared.act.Act.TheVariants.{Collect}
use Rattle.seqpool.specs.Pool.{lane_of}
use Rattle.seqpool.specs.Rows.{Answers}
use Rattle.seqpool.proofs.pool.SeqPool.answer.Goals as goal

pub publish-requires : goal.publish-requires
publish-requires c = subst (λ (act : Act). lane_of act < c.args.self.now.shape.lanes) c.in-Publish.is c.requires

pub get-requires : goal.get-requires
get-requires c = subst (λ (act : Act). lane_of act < c.args.self.now.shape.lanes) c.in-Get.is c.requires

pub release-requires : goal.release-requires
release-requires c = subst (λ (act : Act). lane_of act < c.args.self.now.shape.lanes) c.in-Release.is c.requires

pub clear-requires : goal.clear-requires
clear-requires c = subst (λ (act : Act). lane_of act < c.args.self.now.shape.lanes) c.in-Clear.is c.requires

pub reclaim-requires : goal.reclaim-requires
reclaim-requires c = subst (λ (act : Act). lane_of act < c.args.self.now.shape.lanes) c.in-Reclaim.is c.requires

pub home-requires : goal.home-requires
home-requires c = subst (λ (act : Act). lane_of act < c.args.self.now.shape.lanes) c.in-Home.is c.requires

pub collect-requires : goal.collect-requires
collect-requires c = subst (λ (act : Act). lane_of act < c.args.self.now.shape.lanes) c.in-Collect.is c.requires

pub returns-in-Publish : goal.returns-in-Publish
returns-in-Publish c = subst (λ (act : Act). Answers c.args.self.now act c.publish.result c.publish.new.self) (sym c.in-Publish.is) c.publish.ensures

pub returns-in-Get : goal.returns-in-Get
returns-in-Get c = subst (λ (act : Act). Answers c.args.self.now act c.get.result c.get.new.self) (sym c.in-Get.is) c.get.ensures

pub returns-in-Release : goal.returns-in-Release
returns-in-Release c = subst (λ (act : Act). Answers c.args.self.now act c.release.result c.release.new.self) (sym c.in-Release.is) c.release.ensures

pub returns-in-Clear : goal.returns-in-Clear
returns-in-Clear c = subst (λ (act : Act). Answers c.args.self.now act c.clear.result c.clear.new.self) (sym c.in-Clear.is) c.clear.ensures

pub returns-in-Reclaim : goal.returns-in-Reclaim
returns-in-Reclaim c = subst (λ (act : Act). Answers c.args.self.now act c.reclaim.result c.reclaim.new.self) (sym c.in-Reclaim.is) c.reclaim.ensures

pub returns-in-Home : goal.returns-in-Home
returns-in-Home c = subst (λ (act : Act). Answers c.args.self.now act c.home.result c.home.new.self) (sym c.in-Home.is) c.home.ensures

pub returns-in-Collect : goal.returns-in-Collect
returns-in-Collect c =
    subst (λ (act : Act). Answers c.args.self.now act c.collect.result c.collect.new.self) (sym c.in-Collect.is)
    (subst (λ (places : List ℕ). Answers c.args.self.now (Collect c.in-Collect.lane places) c.collect.result c.collect.new.self) c.as_slice.ensures c.collect.ensures)
