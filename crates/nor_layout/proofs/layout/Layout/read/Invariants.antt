use Rattle.std.proofs.Common.{◌≡◌, length, map}
use Rattle.nor_layout.specs.Text.{AreRegions}
use Rattle.nor_layout.proofs.Texts.{LinesDefine}
use Rattle.nor_layout.proofs.layout.Layout.read.Given as goal

abbrev pub invariant-loop-line : goal.invariant-loop-line
invariant-loop-line l = record {
  counted : l.number ≡ length l.yielded;
  kept : AreRegions l.regions.items;
  read : LinesDefine (map (λ line. line.now) l.yielded) l.number l.regions.items;
}
