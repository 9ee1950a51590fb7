use Rattle.typed_path.proofs.common.relative.near_texts.Goals as goal

pub returns : goal.returns
returns c =
    let into = c.in_ok-rest.ensures in
    let own = c.in_ok-ended.ensures in
    let behind = c.in_ok-up.ensures in
    record {
      front = into.front;
      names = own.0;
      others = behind.1;
      own = into.own c.in_ok-ended.ended own.0 own.1;
      other = into.others behind.0 behind.1 behind.2;
      apart = into.apart c.in_ok-ended.ended behind.0 own.0 behind.1 own.1 behind.2;
      alone = own.1;
      up = behind.3;
    }
