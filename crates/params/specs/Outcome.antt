-- What this crate's types say, in the standard's names.
--     params_of    a record: its fields by the standard's names
-- Assumes nothing.
use Rattle.coding.specs.Params as params
use Rattle.params.specs.declared.Params.{Params}

abbrev pub params_of : Params → params.Params
params_of p =
    record {
      cpb_cnt = p.cpb_cnt;
      bit_rate_scale = p.bit_rate_scale;
      cpb_size_scale = p.cpb_size_scale;
      bit_rate_value_minus1 = p.bit_rate_value_minus1;
      cpb_size_value_minus1 = p.cpb_size_value_minus1;
      cbr_flag = p.cbr_flag;
      initial_cpb_removal_delay_length_minus1 = p.initial_cpb_removal_delay_length_minus1;
      cpb_removal_delay_length_minus1 = p.cpb_removal_delay_length_minus1;
      dpb_output_delay_length_minus1 = p.dpb_output_delay_length_minus1;
      time_offset_length = p.time_offset_length;
    }
