use Rattle.std.proofs.Common.{◌++◌, codes, decimal, refl}
use Rattle.streams.proofs.Sayings.{says_more}
use Rattle.poolprogram.proofs.progress.write_entries.Goals as goal

pub returns : goal.returns
returns g c =
    let contents = g.W.Write.contents in
    let old = c.args.out.now in
    let p1 = c.write_text.new.out in
    let p2 = c.write_number.new.out in
    let p3 = c.write_text-2.new.out in
    let p4 = c.write_number-2.new.out in
    let p5 = c.write_text-3.new.out in
    let p6 = c.write_number-3.new.out in
    let t1 = codes "shorten: " in
    let t2 = t1 ++ decimal c.args.left in
    let t3 = t2 ++ codes " of " in
    let t4 = t3 ++ decimal c.args.all in
    let t5 = t4 ++ codes " entries left, trials: " in
    let t6 = t5 ++ decimal c.args.trials in
    let s2 = says_more contents old p1 p2 t1 (decimal c.args.left) t2 c.write_text.ensures c.write_number.ensures refl in
    let s3 = says_more contents old p2 p3 t2 (codes " of ") t3 s2 c.write_text-2.ensures refl in
    let s4 = says_more contents old p3 p4 t3 (decimal c.args.all) t4 s3 c.write_number-2.ensures refl in
    let s5 = says_more contents old p4 p5 t4 (codes " entries left, trials: ") t5 s4 c.write_text-3.ensures refl in
    says_more contents old p5 p6 t5 (decimal c.args.trials) t6 s5 c.write_number-3.ensures refl
