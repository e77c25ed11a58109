pub mod KeyOctets
