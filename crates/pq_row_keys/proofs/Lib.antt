pub mod CodedKeys
