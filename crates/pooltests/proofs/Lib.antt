mod PoolRows
